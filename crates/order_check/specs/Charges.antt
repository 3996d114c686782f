-- What one term adds for a prefix, as a checker reckons it: see slot_share for what it comes to.
use Rattle.std.specs.Prelude.{ℕ, nat_lt, Bool, true, false, List, Option, Some, None, if◌then◌else◌}
use Rattle.std.specs.Prelude.{ℤ, pos, ◌-ℤ◌}
use Rattle.map_base.specs.declared.ids.SegId.{SegId}
use Rattle.map_base.specs.declared.ids.LineId.{LineId}
use Rattle.order_model.specs.declared.term.Term.{Term}
use Rattle.order_model.specs.declared.term.Term.TheVariants.{Side, Link, Apart}
use Rattle.order_model.specs.Problems.{lines_on}
use Rattle.order_model.specs.Costs.{comes_before, same_answer}
use Rattle.order_model.specs.Looks.{is_decided, neighbours_on}
use Rattle.order_bound.specs.Decided.{apart_cost}
use Rattle.order_check.specs.declared.slot.Charge.{Charge}
use Rattle.order_check.specs.declared.slot.Charges.{Charges}

-- nothing is added
abbrev pub no_charge : Charge
no_charge = record { slot = 0; lesser_first = true; amount = pos 0 }

-- a decided term costs so much
abbrev pub decided_charges : ℕ → Charges
decided_charges cost = record { decided = cost; here = no_charge; there = no_charge }

-- so much is added at one slot, by one order of its lines
abbrev pub one_charge : ℕ → Bool → ℤ → Charges
one_charge slot first amount = record { decided = 0; here = record { slot = slot; lesser_first = first; amount = amount }; there = no_charge }

-- the price of an open Link is taken off where x is 1 on its segment, and added where z is 1 on its other
abbrev pub open_charges : ℕ → ℕ → Bool → ℤ → Charges
open_charges here there flip price = record {
  decided = 0;
  here = record { slot = here; lesser_first = false; amount = pos 0 -ℤ price };
  there = record { slot = there; lesser_first = flip; amount = price };
}

-- whether the first of two lines stands first on a segment, where that is decided
abbrev pub looked : List (List LineId) → SegId → LineId → LineId → Option Bool
looked placed s a b = if is_decided placed s a b then Some (comes_before (lines_on placed s) a b) else None

-- what a Link adds, by what is known at its ends
abbrev pub link_charges : ℕ → ℕ → Option Bool → Option Bool → Bool → ℕ → ℤ → Charges
link_charges here there (Some first) (Some first_too) flip w price = decided_charges (if same_answer flip (same_answer first first_too) then w else 0)
link_charges here there (Some first) None flip w price = one_charge there (same_answer flip first) (pos w)
link_charges here there None (Some first_too) flip w price = one_charge here (same_answer flip first_too) (pos w)
link_charges here there None None flip w price = open_charges here there flip price

-- what a term adds, with the places of the slots at its ends and its price
abbrev pub charges_by : List (List LineId) → List (List LineId) → Term → ℕ → ℕ → ℤ → Charges
charges_by segs placed (Side seg first second w) here there price =
    if is_decided placed seg first second then decided_charges (if comes_before (lines_on placed seg) second first then w else 0)
    else one_charge here (nat_lt second.0 first.0) (pos w)
charges_by segs placed (Link seg other flip a b w) here there price =
    link_charges here there (looked placed seg a b) (looked placed other a b) flip w price
charges_by segs placed (Apart seg other a b w) here there price =
    decided_charges (apart_cost w (neighbours_on (lines_on segs seg) (lines_on placed seg) a b) (neighbours_on (lines_on segs other) (lines_on placed other) a b))

-- what an open Link adds under its price
abbrev pub price_charges : Term → ℕ → ℕ → ℤ → Charges
price_charges (Side seg first second w) here there price = decided_charges 0
price_charges (Link seg other flip a b w) here there price = open_charges here there flip price
price_charges (Apart seg other a b w) here there price = decided_charges 0
