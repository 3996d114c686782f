-- Ways of stretches, one after another.
use Rattle.std.proofs.Common.{◌≡◌, subst, ℕ, List}
use Rattle.map_base.specs.declared.point.Point.{Point}
use Rattle.track_net.specs.Nets.{NetParts}
use Rattle.line_graph.specs.declared.stretches.Stretch.{Stretch}
use Rattle.line_graph.specs.Premises.{IsLed}

pub led_same : (near : ℕ) (net : NetParts) (s t : Stretch) (corridor other : List Point) → s ≡ t → corridor ≡ other → IsLed near net s corridor → IsLed near net t other
led_same near net s t corridor other same equal led = subst (λ (x : Stretch). IsLed near net x other) same (subst (λ (xs : List Point). IsLed near net s xs) equal led)
