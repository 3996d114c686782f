-- What a line of each form says, and that it is the line which is written of it.
use Rattle.std.proofs.Common.{◌≡◌, ℕ, zero, suc, ◌<◌, ◌≤◌, ℤ, pos, negsuc, Bool, true, false, cond, ltb, List, [], ◌∷◌, ◌++◌, length, Option, Some, None, option_map, refl, ap, subst, sym, ◌∙◌, arith}
use Rattle.std.specs.Option.{option_and_then}
use Rattle.std.proofs.lemmas.Bool.{eqb-true, ltb-true}
use Rattle.map_base.specs.declared.ids.SegId.{SegId}
use Rattle.map_base.specs.declared.ids.LineId.{LineId}
use Rattle.order_values.specs.declared.rule.Rule.{Rule}
use Rattle.order_values.specs.declared.rule.Rule.TheVariants.{Merge as merge_rule, Divide as divide_rule}
use Rattle.order_proof.specs.declared.line_word.LineWord.{LineWord}
use Rattle.order_proof.specs.declared.line_word.LineWord.TheVariants.{Rules, Merge, Divide, Parts, Part, Split, Take, Close, Fork, Stop}
use Rattle.order_proof.specs.declared.node_line.NodeLine.{NodeLine}
use Rattle.order_proof.specs.declared.node_line.NodeLine.TheVariants as nodes
use Rattle.order_proof.specs.declared.dual_line.DualLine.{DualLine}
use Rattle.order_proof.specs.declared.dual_line.DualLine.TheVariants as duals
use Rattle.order_proof.specs.Lines.{Line, line_text, bit, segment_numbers, line_numbers, price_numbers, rules_line, rule_line, parts_line, part_line, split_line, take_line, close_line, fork_line, stop_line}
use Rattle.decimal_text.specs.Numbers.{up_to, natural_within, from_to}
use Rattle.order_proof.specs.FrontLine.{front}
use Rattle.order_proof.specs.Forms.{most_items, most_id, most_cases, most_target, most_price, most_stop_price, seg, line_id, rising, price_of, term_with, priced_term, prices_from, counts, counted_prices, flag_of, rules_in, merge_with, rule_in, parts_in, part_in, split_with, node_in, fork_with, dual_in, take_in}
use Rattle.order_proof.specs.Trees.{is_among}
use Rattle.order_proof.specs.Ranges.{AreRisingLines, AreRisingSegments, IsPrice, ArePrices, IsRuleInRange}
use Rattle.decimal_text.proofs.DigitLemmas.{up_to_some}
use Rattle.decimal_text.proofs.RangeLemmas.{within_is, from_to_is}
use Rattle.order_proof.proofs.Fronts.{front_is}
use Rattle.order_proof.proofs.LineLemmas.{front_line_text}

abbrev some : {A : Type 0} → A → Option A
some x = Some x

some_is : {A : Type 0} (x y : A) → some x ≡ some y → x ≡ y
some_is x y e = cc

and_then_is : {A B : Type 0} (f : A → Option B) (o : Option A) (b : B) → option_and_then f o ≡ Some b → (a : A) × (o ≡ Some a) × (f a ≡ Some b)
and_then_is f None b e = absurd cc
and_then_is f (Some a) b e = (a, refl, e)

map_is : {A B : Type 0} (f : A → B) (o : Option A) (b : B) → option_map f o ≡ Some b → (a : A) × (o ≡ Some a) × (f a ≡ b)
map_is f None b e = absurd cc
map_is f (Some a) b e = (a, refl, some_is (f a) b e)

lines_are : (least : ℕ) (zs : List ℤ) (lines : List LineId) → rising line_id least zs ≡ Some lines → (zs ≡ line_numbers lines) × AreRisingLines least lines
lines_are least [] lines e = subst (λ (ls : List LineId). ([] ≡ line_numbers ls) × AreRisingLines least ls) (some_is [] lines e) (refl, tt)
lines_are least (z ∷ rest) lines e =
    let a = and_then_is (λ n. option_map (λ more. line_id n ∷ more) (rising line_id (suc n) rest)) (from_to least most_id z) lines e in
    let m = map_is (λ more. line_id a.0 ∷ more) (rising line_id (suc a.0) rest) lines a.2 in
    let first = from_to_is least most_id z a.0 a.1 in
    let later = lines_are (suc a.0) rest m.0 m.1 in
    subst (λ (ls : List LineId). (z ∷ rest ≡ line_numbers ls) × AreRisingLines least ls) m.2
    (ap (λ (y : ℤ). y ∷ rest) first.0 ∙ ap (λ (ys : List ℤ). pos a.0 ∷ ys) later.0, (first.1, first.2, later.1))

segments_are : (least : ℕ) (zs : List ℤ) (segs : List SegId) → rising seg least zs ≡ Some segs → (zs ≡ segment_numbers segs) × AreRisingSegments least segs
segments_are least [] segs e = subst (λ (ls : List SegId). ([] ≡ segment_numbers ls) × AreRisingSegments least ls) (some_is [] segs e) (refl, tt)
segments_are least (z ∷ rest) segs e =
    let a = and_then_is (λ n. option_map (λ more. seg n ∷ more) (rising seg (suc n) rest)) (from_to least most_id z) segs e in
    let m = map_is (λ more. seg a.0 ∷ more) (rising seg (suc a.0) rest) segs a.2 in
    let first = from_to_is least most_id z a.0 a.1 in
    let later = segments_are (suc a.0) rest m.0 m.1 in
    subst (λ (ls : List SegId). (z ∷ rest ≡ segment_numbers ls) × AreRisingSegments least ls) m.2
    (ap (λ (y : ℤ). y ∷ rest) first.0 ∙ ap (λ (ys : List ℤ). pos a.0 ∷ ys) later.0, (first.1, first.2, later.1))

price_is : (most : ℕ) (z p : ℤ) → price_of most z ≡ Some p → (z ≡ p) × IsPrice most p
price_is most (pos zero) p e = absurd cc
price_is most (pos (suc n)) p e =
    let m = map_is pos (up_to most (suc n)) p e in
    let is = up_to_some most (suc n) m.0 (sym m.1) in
    subst (λ (y : ℤ). (pos (suc n) ≡ y) × IsPrice most y) m.2 (ap pos (sym is.0), (omega (arith, is.0), omega (arith, is.0, is.1)))
price_is most (negsuc n) p e = by (ltb n most) refl e
  where
    by : (b : Bool) → ltb n most ≡ b → cond b (Some (negsuc n)) None ≡ some p → (negsuc n ≡ p) × IsPrice most p
    by true low e = subst (λ (y : ℤ). (negsuc n ≡ y) × IsPrice most y) (some_is (negsuc n) p e) (refl, ltb-true n most low)
    by false low e = absurd cc

term_is : (o : Option ℕ) (q : Option ℤ) (p : ℕ × ℤ) → term_with o q ≡ Some p → (o ≡ Some p.0) × (q ≡ Some p.1)
term_is None q p e = absurd cc
term_is (Some n) None p e = absurd cc
term_is (Some n) (Some z) p e =
    let is : (n, z) ≡ p = some_is (n, z) p e in
    (ap (λ (x : ℕ × ℤ). some x.0) is, ap (λ (x : ℕ × ℤ). some x.1) is)

prices_are : (most least : ℕ) (zs : List ℤ) (ps : List (ℕ × ℤ)) → prices_from most least zs ≡ Some ps
    → (zs ≡ price_numbers ps) × ArePrices most least ps
prices_are most least [] ps e = subst (λ (qs : List (ℕ × ℤ)). ([] ≡ price_numbers qs) × ArePrices most least qs) (some_is [] ps e) (refl, tt)
prices_are most least (t ∷ []) ps e = absurd cc
prices_are most least (t ∷ z ∷ rest) ps e =
    let a = and_then_is (λ (p : ℕ × ℤ). option_map (λ more. p ∷ more) (prices_from most (suc p.0) rest)) (priced_term most least t z) ps e in
    let m = map_is (λ more. a.0 ∷ more) (prices_from most (suc a.0.0) rest) ps a.2 in
    let both = term_is (from_to least most_id t) (price_of most z) a.0 a.1 in
    let first = from_to_is least most_id t a.0.0 both.0 in
    let price = price_is most z a.0.1 both.1 in
    let later = prices_are most (suc a.0.0) rest m.0 m.1 in
    subst (λ (qs : List (ℕ × ℤ)). (t ∷ z ∷ rest ≡ price_numbers qs) × ArePrices most least qs) m.2 (
      ap (λ (y : ℤ). y ∷ z ∷ rest) first.0
          ∙ ap (λ (y : ℤ). pos a.0.0 ∷ y ∷ rest) price.0
          ∙ ap (λ (ys : List ℤ). pos a.0.0 ∷ a.0.1 ∷ ys) later.0,
      (first.1, first.2, price.1, later.1),
    )

counts_is : (n : ℕ) (z : ℤ) → counts n z ≡ true → z ≡ pos n
counts_is n (pos m) e = ap pos (sym (eqb-true n m e))
counts_is n (negsuc m) e = absurd cc

counted_is : (most : ℕ) (z : ℤ) (rest : List ℤ) (ps : List (ℕ × ℤ)) → counted_prices most z rest ≡ Some ps
    → (z ∷ rest ≡ pos (length ps) ∷ price_numbers ps) × ArePrices most 0 ps
counted_is most z rest ps e =
    let a = and_then_is (λ (qs : List (ℕ × ℤ)). cond (counts (length qs) z) (some qs) None) (prices_from most 0 rest) ps e in
    by a.0 (prices_are most 0 rest a.0 a.1) (counts (length a.0) z) refl a.2
  where
    by : (qs : List (ℕ × ℤ)) → (rest ≡ price_numbers qs) × ArePrices most 0 qs → (b : Bool) → counts (length qs) z ≡ b → cond b (some qs) None ≡ some ps
        → (z ∷ rest ≡ pos (length ps) ∷ price_numbers ps) × ArePrices most 0 ps
    by qs list true counted e =
        subst (λ (rs : List (ℕ × ℤ)). (z ∷ rest ≡ pos (length rs) ∷ price_numbers rs) × ArePrices most 0 rs) (some_is qs ps e) (
          ap (λ (u : ℤ). u ∷ rest) (counts_is (length qs) z counted) ∙ ap (λ (us : List ℤ). pos (length qs) ∷ us) list.0,
          list.1,
        )
    by qs list false counted e = absurd cc

flag_is : (z : ℤ) (b : Bool) → flag_of z ≡ Some b → z ≡ pos (bit b)
flag_is (pos zero) b e = ap (λ (c : Bool). pos (bit c)) (some_is false b e)
flag_is (pos (suc zero)) b e = ap (λ (c : Bool). pos (bit c)) (some_is true b e)
flag_is (pos (suc (suc n))) b e = absurd cc
flag_is (negsuc n) b e = absurd cc

-- ---- each form

pub rules_is : (l : Line) (n : ℕ) → rules_in l.word l.numbers ≡ Some n → (l ≡ rules_line n) × (n ≤ most_items)
rules_is l n e = by l.word l.numbers e
  where
    by : (word : LineWord) (zs : List ℤ) → rules_in word zs ≡ Some n → (record { word = word; numbers = zs } ≡ rules_line n) × (n ≤ most_items)
    by Rules (z ∷ []) e = let is = within_is most_items z n e in (ap (λ (y : ℤ). record { word = Rules; numbers = y ∷ [] }) is.0, is.1)
    by _ _ e = absurd cc

merge_is : (a b : Option ℕ) (c : Option Bool) (r : Rule) → merge_with a b c ≡ Some r → (i : ℕ) × (j : ℕ) × (f : Bool) × (a ≡ Some i) × (b ≡ Some j) × (c ≡ Some f) × (merge_rule (seg i) (seg j) f ≡ r)
merge_is None b c r e = absurd cc
merge_is (Some i) None c r e = absurd cc
merge_is (Some i) (Some j) None r e = absurd cc
merge_is (Some i) (Some j) (Some f) r e = (i, j, f, refl, refl, refl, some_is (merge_rule (seg i) (seg j) f) r e)

pub rule_is : (l : Line) (r : Rule) → rule_in l.word l.numbers ≡ Some r → (l ≡ rule_line r) × IsRuleInRange r
rule_is l r e = by l.word l.numbers e
  where
    by : (word : LineWord) (zs : List ℤ) → rule_in word zs ≡ Some r → (record { word = word; numbers = zs } ≡ rule_line r) × IsRuleInRange r
    by Merge (x ∷ y ∷ z ∷ []) e =
        let m = merge_is (natural_within most_id x) (natural_within most_id y) (flag_of z) r e in
        let into = within_is most_id x m.0 m.3 in
        let from = within_is most_id y m.1 m.4 in
        let flip = flag_is z m.2 m.5 in
        subst (λ (q : Rule). (record { word = Merge; numbers = x ∷ y ∷ z ∷ [] } ≡ rule_line q) × IsRuleInRange q) m.6 (
          ap (λ (u : ℤ). record { word = Merge; numbers = u ∷ y ∷ z ∷ [] }) into.0
              ∙ ap (λ (u : ℤ). record { word = Merge; numbers = pos m.0 ∷ u ∷ z ∷ [] }) from.0
              ∙ ap (λ (u : ℤ). record { word = Merge; numbers = pos m.0 ∷ pos m.1 ∷ u ∷ [] }) flip,
          (into.1, from.1),
        )
    by Divide (x ∷ rest) e =
        let a = and_then_is (λ n. option_map (divide_rule (seg n)) (rising line_id 0 rest)) (natural_within most_id x) r e in
        let m = map_is (divide_rule (seg a.0)) (rising line_id 0 rest) r a.2 in
        let at = within_is most_id x a.0 a.1 in
        let lines = lines_are 0 rest m.0 m.1 in
        subst (λ (q : Rule). (record { word = Divide; numbers = x ∷ rest } ≡ rule_line q) × IsRuleInRange q) m.2 (
          ap (λ (u : ℤ). record { word = Divide; numbers = u ∷ rest }) at.0
              ∙ ap (λ (us : List ℤ). record { word = Divide; numbers = pos a.0 ∷ us }) lines.0,
          (at.1, lines.1),
        )
    by _ _ e = absurd cc

pub parts_is : (l : Line) (n : ℕ) → parts_in l.word l.numbers ≡ Some n → (l ≡ parts_line n) × (n ≤ most_items)
parts_is l n e = by l.word l.numbers e
  where
    by : (word : LineWord) (zs : List ℤ) → parts_in word zs ≡ Some n → (record { word = word; numbers = zs } ≡ parts_line n) × (n ≤ most_items)
    by Parts (z ∷ []) e = let is = within_is most_items z n e in (ap (λ (y : ℤ). record { word = Parts; numbers = y ∷ [] }) is.0, is.1)
    by _ _ e = absurd cc

pub part_is : (l : Line) (p : ℕ × List SegId) → part_in l.word l.numbers ≡ Some p → (l ≡ part_line p.0 p.1) × (p.0 ≤ most_target) × AreRisingSegments 0 p.1
part_is l p e = by l.word l.numbers e
  where
    by : (word : LineWord) (zs : List ℤ) → part_in word zs ≡ Some p → (record { word = word; numbers = zs } ≡ part_line p.0 p.1) × (p.0 ≤ most_target) × AreRisingSegments 0 p.1
    by Part (x ∷ rest) e =
        let a = and_then_is (λ t. option_map (λ list. (t, list)) (rising seg 0 rest)) (natural_within most_target x) p e in
        let m = map_is (λ list. (a.0, list)) (rising seg 0 rest) p a.2 in
        let target = within_is most_target x a.0 a.1 in
        let segs = segments_are 0 rest m.0 m.1 in
        subst (λ (q : ℕ × List SegId). (record { word = Part; numbers = x ∷ rest } ≡ part_line q.0 q.1) × (q.0 ≤ most_target) × AreRisingSegments 0 q.1) m.2 (
          ap (λ (u : ℤ). record { word = Part; numbers = u ∷ rest }) target.0
              ∙ ap (λ (us : List ℤ). record { word = Part; numbers = pos a.0 ∷ us }) segs.0,
          target.1,
          segs.1,
        )
    by _ _ e = absurd cc

-- what the line of a node says
abbrev pub node_line : NodeLine → Line
node_line (nodes.Split e count) = split_line e count
node_line (nodes.Close prices) = close_line prices

abbrev pub IsNodeWithin : ℕ → NodeLine → Type 0
IsNodeWithin room (nodes.Split e count) = (0 < room) × (e.0 ≤ most_id) × (1 ≤ count) × (count ≤ most_cases)
IsNodeWithin room (nodes.Close prices) = ArePrices most_price 0 prices

split_is : (room : ℕ) (a b : Option ℕ) (node : NodeLine) → split_with room a b ≡ Some node → (i : ℕ) × (j : ℕ) × (0 < room) × (a ≡ Some i) × (b ≡ Some j) × (nodes.Split (seg i) j ≡ node)
split_is zero a b node e = absurd cc
split_is (suc room) None b node e = absurd cc
split_is (suc room) (Some i) None node e = absurd cc
split_is (suc room) (Some i) (Some j) node e = (i, j, omega arith, refl, refl, some_is (nodes.Split (seg i) j) node e)

pub node_is : (room : ℕ) (l : Line) (node : NodeLine) → node_in room l.word l.numbers ≡ Some node → (l ≡ node_line node) × IsNodeWithin room node
node_is room l node e = by l.word l.numbers e
  where
    by : (word : LineWord) (zs : List ℤ) → node_in room word zs ≡ Some node → (record { word = word; numbers = zs } ≡ node_line node) × IsNodeWithin room node
    by Split (x ∷ y ∷ []) e =
        let m = split_is room (natural_within most_id x) (from_to 1 most_cases y) node e in
        let at = within_is most_id x m.0 m.3 in
        let count = from_to_is 1 most_cases y m.1 m.4 in
        subst (λ (q : NodeLine). (record { word = Split; numbers = x ∷ y ∷ [] } ≡ node_line q) × IsNodeWithin room q) m.5 (
          ap (λ (u : ℤ). record { word = Split; numbers = u ∷ y ∷ [] }) at.0
              ∙ ap (λ (u : ℤ). record { word = Split; numbers = pos m.0 ∷ u ∷ [] }) count.0,
          (m.2, at.1, count.1, count.2),
        )
    by Close (z ∷ rest) e =
        let m = map_is nodes.Close (counted_prices most_price z rest) node e in
        let is = counted_is most_price z rest m.0 m.1 in
        subst (λ (q : NodeLine). (record { word = Close; numbers = z ∷ rest } ≡ node_line q) × IsNodeWithin room q) m.2
        (ap (λ (us : List ℤ). record { word = Close; numbers = us }) is.0, is.1)
    by _ _ e = absurd cc

-- what the line of a node of a dual tree says
abbrev pub dual_line : DualLine → Line
dual_line (duals.Fork e a b) = fork_line e a b
dual_line (duals.Stop prices) = stop_line prices

abbrev pub IsDualWithin : ℕ → DualLine → Type 0
IsDualWithin room (duals.Fork e a b) = (0 < room) × (e.0 ≤ most_id) × (a.0 ≤ most_id) × (b.0 ≤ most_id)
IsDualWithin room (duals.Stop prices) = ArePrices most_stop_price 0 prices

fork_is : (room : ℕ) (x y z : Option ℕ) (node : DualLine) → fork_with room x y z ≡ Some node
    → (i j k : ℕ) × (0 < room) × (x ≡ Some i) × (y ≡ Some j) × (z ≡ Some k) × (duals.Fork (seg i) (line_id j) (line_id k) ≡ node)
fork_is zero x y z node e = absurd cc
fork_is (suc room) None y z node e = absurd cc
fork_is (suc room) (Some i) None z node e = absurd cc
fork_is (suc room) (Some i) (Some j) None node e = absurd cc
fork_is (suc room) (Some i) (Some j) (Some k) node e = (i, j, k, omega arith, refl, refl, refl, some_is (duals.Fork (seg i) (line_id j) (line_id k)) node e)

pub dual_is : (room : ℕ) (l : Line) (node : DualLine) → dual_in room l.word l.numbers ≡ Some node → (l ≡ dual_line node) × IsDualWithin room node
dual_is room l node e = by l.word l.numbers e
  where
    by : (word : LineWord) (zs : List ℤ) → dual_in room word zs ≡ Some node → (record { word = word; numbers = zs } ≡ dual_line node) × IsDualWithin room node
    by Fork (x ∷ y ∷ z ∷ []) e =
        let m = fork_is room (natural_within most_id x) (natural_within most_id y) (natural_within most_id z) node e in
        let at = within_is most_id x m.0 m.4 in
        let a = within_is most_id y m.1 m.5 in
        let b = within_is most_id z m.2 m.6 in
        subst (λ (q : DualLine). (record { word = Fork; numbers = x ∷ y ∷ z ∷ [] } ≡ dual_line q) × IsDualWithin room q) m.7 (
          ap (λ (u : ℤ). record { word = Fork; numbers = u ∷ y ∷ z ∷ [] }) at.0
              ∙ ap (λ (u : ℤ). record { word = Fork; numbers = pos m.0 ∷ u ∷ z ∷ [] }) a.0
              ∙ ap (λ (u : ℤ). record { word = Fork; numbers = pos m.0 ∷ pos m.1 ∷ u ∷ [] }) b.0,
          (m.3, at.1, a.1, b.1),
        )
    by Stop (z ∷ rest) e =
        let m = map_is duals.Stop (counted_prices most_stop_price z rest) node e in
        let is = counted_is most_stop_price z rest m.0 m.1 in
        subst (λ (q : DualLine). (record { word = Stop; numbers = z ∷ rest } ≡ dual_line q) × IsDualWithin room q) m.2
        (ap (λ (us : List ℤ). record { word = Stop; numbers = us }) is.0, is.1)
    by _ _ e = absurd cc

pub take_is : (taken : List LineId) (l : Line) (a : LineId) → take_in taken l.word l.numbers ≡ Some a → (l ≡ take_line a) × (a.0 ≤ most_id) × (is_among taken a ≡ false)
take_is taken l a e = by l.word l.numbers e
  where
    free : (z : ℤ) (n : ℕ) → (z ≡ pos n) × (n ≤ most_id) → (b : Bool) → is_among taken (line_id n) ≡ b → cond b None (Some (line_id n)) ≡ some a
        → (record { word = Take; numbers = z ∷ [] } ≡ take_line a) × (a.0 ≤ most_id) × (is_among taken a ≡ false)
    free z n is true among e = absurd cc
    free z n is false among e =
        subst (λ (b : LineId). (record { word = Take; numbers = z ∷ [] } ≡ take_line b) × (b.0 ≤ most_id) × (is_among taken b ≡ false)) (some_is (line_id n) a e)
        (ap (λ (u : ℤ). record { word = Take; numbers = u ∷ [] }) is.0, is.1, among)

    by : (word : LineWord) (zs : List ℤ) → take_in taken word zs ≡ Some a → (record { word = word; numbers = zs } ≡ take_line a) × (a.0 ≤ most_id) × (is_among taken a ≡ false)
    by Take (z ∷ []) e =
        let m = and_then_is (λ (n : ℕ). cond (is_among taken (line_id n)) None (some (line_id n))) (natural_within most_id z) a e in
        free z m.0 (within_is most_id z m.0 m.1) (is_among taken (line_id m.0)) refl m.2
    by _ _ e = absurd cc

-- a line at the front is written so, and the rest stands behind it
pub front_text : {A : Type 0} (reading : LineWord → List ℤ → Option A) (text : List ℕ) (a : A) (rest : List ℕ) (made : Line)
    → ((l : Line) → reading l.word l.numbers ≡ Some a → l ≡ made) → front reading text ≡ Some (a, rest) → text ≡ line_text made ++ rest
front_text reading text a rest made is e =
    let said = front_is reading text a rest e in
    (front_line_text text said.line rest said.at_front).0 ∙ ap (λ (l : Line). line_text l ++ rest) (is said.line said.says)
