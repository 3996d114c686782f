-- Drawings in the making that differ at most in where nodes lie that don't stand.
use Rattle.std.specs.Prelude.{◌≡◌, ℕ, true, length}
use Rattle.run_laying.specs.Laying.{Sketch}
use Rattle.run_laying.specs.Sketches.{is_standing, point_of_node}

pub record AreAlike (j k : Sketch) : Type 0 where
  pub bounds : j.bounds ≡ k.bounds
  pub points_each : length j.points ≡ length k.points
  pub stand : j.stand ≡ k.stand
  pub walks : j.walks ≡ k.walks
  pub points : (n : ℕ) → is_standing k n ≡ true → point_of_node j n ≡ point_of_node k n
