-- What a read of a record leaves of the records that were left.
use Rattle.std.proofs.Common.{◌≡◌, ℕ, zero, suc, ◌+◌, ◌≤◌, Bor, Bool, true, false, cond, List, [], ◌∷◌, length, Option, Some, None, refl, sym, subst, arith}
use Rattle.csv.specs.declared.parser.Config.{Config}
use Rattle.csv.specs.declared.parser.State.{State}
use Rattle.csv.specs.declared.parser.State.TheVariants as st
use Rattle.csv.specs.declared.reader.Reader.{Reader}
use Rattle.csv.specs.Machine.{Read, next_record, ends_at_end}
use Rattle.csv.specs.Reading.{Reached, AreRecords, ReadRecord, ReadsNext, records_from, records_next, default_config, pending_of}
use Rattle.csv.proofs.ReadFacts.{rows-more, rows-end}
use Rattle.gtfs_fields.specs.RowsLeft.{IsPlain, Takes, bytes_left, rows_left}
use Rattle.gtfs_fields.proofs.AllRecords.{left_of, left-lt, records_from_is, count-le}

-- nothing is left of an empty text in a state in which its end ends no record
nothing_left : (cfg : Config) (s : State) (xs : List ℕ) → left_of s xs ≤ 0 → next_record cfg s [] [] xs ≡ None
unfolding next_record
nothing_left cfg s [] l = by (ends_at_end s) l
  where
    by : (b : Bool) → 0 + cond b 1 0 ≤ 0 → cond {A = Option Read} b (Some ([] ∷ [], st.StartRecord, [])) None ≡ None
    by true l = absurd (omega (arith, l))
    by false l = refl
nothing_left cfg s (c ∷ xs) l = absurd (omega (arith, l))

-- as many records as there is left to read are all records
reaches : (cfg : Config) (n : ℕ) (s : State) (xs : List ℕ) → left_of s xs ≤ n → AreRecords cfg s xs (records_from cfg n s xs)
unfolding Reached records_from
reaches cfg zero s xs l = (s, xs, (refl, refl), nothing_left cfg s xs l)
reaches cfg (suc n) s xs l = by (next_record cfg s [] [] xs) refl (λ s xs l. reaches cfg n s xs l)
  where
    by : (q : Option Read) → next_record cfg s [] [] xs ≡ q → ((s : State) (xs : List ℕ) → left_of s xs ≤ n → AreRecords cfg s xs (records_from cfg n s xs))
        → AreRecords cfg s xs (records_next (records_from cfg n) q)
    by None e more = (s, xs, (refl, refl), e)
    by (Some p) e more =
        let fewer = left-lt cfg s p.1 xs p.2 p.0 (p, e, refl, (refl, refl)) in
        let rest = more p.1 p.2 (omega (arith, fewer, l)) in
        (rest.0, rest.1, (p, e, refl, rest.2), rest.3)

-- one more than there are bytes is enough
all_left : (cfg : Config) (s : State) (xs : List ℕ) → AreRecords cfg s xs (records_from cfg (length xs + 1) s xs)
all_left cfg s xs =
    let h = reaches cfg (left_of s xs) s xs (omega arith) in
    let rows = records_from cfg (left_of s xs) s xs in
    let same : records_from cfg (length xs + 1) s xs ≡ rows = records_from_is cfg (length xs + 1) s h.0 xs h.1 rows h.2 h.3 (count-le cfg s h.0 xs h.1 rows h.2) in
    subst (AreRecords cfg s xs) (sym same) h

-- the first record, and the others
left_more : (cfg : Config) (s s2 : State) (xs ys : List ℕ) (row : List (List ℕ)) → Reached cfg s xs (row ∷ []) s2 ys
    → records_from cfg (length xs + 1) s xs ≡ row ∷ records_from cfg (length ys + 1) s2 ys
unfolding Reached
left_more cfg s s2 xs ys row h =
    let rest = all_left cfg s2 ys in
    let rows = row ∷ records_from cfg (length ys + 1) s2 ys in
    let all : Reached cfg s xs rows rest.0 rest.1 = (h.0, h.1, h.2, rw (h.3.0, h.3.1) rest.2) in
    records_from_is cfg (length xs + 1) s rest.0 xs rest.1 rows all rest.3 (count-le cfg s rest.0 xs rest.1 rows all)

-- no record
left_end : (cfg : Config) (s : State) (xs : List ℕ) → next_record cfg s [] [] xs ≡ None → records_from cfg (length xs + 1) s xs ≡ []
unfolding Reached
left_end cfg s xs e = records_from_is cfg (length xs + 1) s s xs xs [] (refl, refl) e (omega arith)

abbrev Bytes : Type 0
Bytes = Bor (List ℕ)

abbrev known : Bytes → Option (List ℕ)
known bytes = Some bytes.now

-- bytes that are known before a read are known after it
still_known : (cfg : Config) (s s2 : State) (xs : List ℕ) (after : Option (List ℕ)) (found : Bool) (fields : List (List ℕ))
    → ReadsNext cfg s (Some xs) after found fields s2 → (ys : List ℕ) × (after ≡ Some ys)
still_known cfg s s2 xs None found fields reads = absurd reads
still_known cfg s s2 xs (Some ys) found fields reads = (ys, refl)

pub source_after : (a b : Reader Bytes) (found : Bool) (fields : List (List ℕ)) → IsPlain a → ReadRecord known a b found fields → (ys : List ℕ) × (bytes_left b ≡ Some ys)
source_after a b found fields plain read =
    let after = still_known a.config a.state b.state plain.unread (pending_of (known b.rdr) b) found fields (rw plain.source at read.0) in
    (after.0, rw read.1 after.1)

pub takes : (a b : Reader Bytes) (found : Bool) (fields : List (List ℕ)) → IsPlain a → ReadRecord known a b found fields → Takes (rows_left a) found fields (rows_left b)
unfolding Reached
takes a b true fields plain read =
    let more = rows-more known a b fields default_config a.state plain.unread plain.unread [] plain.config plain.source (refl, refl) read in
    rw (plain.source, more.1) (left_more default_config a.state b.state plain.unread more.0 fields more.2)
takes a b false fields plain read =
    rw plain.source (left_end default_config a.state plain.unread (rows-end known a b fields default_config plain.unread plain.config plain.source read))
