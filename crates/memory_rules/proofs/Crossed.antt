-- Pairs of addresses, one address after another: for the faults of 608, and for the other value of one.
use Rattle.std.proofs.Common.{◌≡◌, ℕ, ◌+◌, ◌-◌, ◌<◌, ◌≤◌, List, [], ◌∷◌, length, get_or, drop, take, length-drop, map, find, refl, sym, ap, ◌∙◌, arith, Bool, true, false, Option, Some, None}
use Rattle.std.specs.Prelude.{◌&&◌, ◌==◌, cond, is_some, option_map}
use Rattle.std.specs.Option.{option_or}
use Rattle.std.specs.List.{flat_map}
use Rattle.std.proofs.lemmas.List.{at_drop_more, take_all}
use Rattle.std.proofs.lemmas.List.Concat.{flat_map-append}
use Rattle.std.proofs.lemmas.List.Folds.{flat_map-map, find-append}
use Rattle.sil_ast.specs.declared.place.ValueId.{ValueId}
use Rattle.numbered_form.specs.PointChecks.inner.Faults.{least}
use Rattle.numbered_form.specs.declared.point_checks.fault.PointFault.{PointFault}
use Rattle.numbered_form.proofs.PointChecks.Least.{least-append}
use Rattle.memory_rules_accesses.specs.declared.source.Source.{Source}
use Rattle.memory_rules.specs.Statics.{AddressPair, address_of, clashes_with, crosses, pair, pairs_of, second_of}
use Rattle.memory_rules.specs.declared.overlaps.HandedAddress.{HandedAddress}

-- what a place past the end is read as
abbrev pub some_address : HandedAddress
some_address = record { address = record { 0 = 0 }; shared = false }

-- a slice from a place on is what is left there
pub rest_from : (xs : List HandedAddress) (n : ℕ) → n ≤ length xs → take (length xs - n) (drop n xs) ≡ drop n xs
rest_from xs n le = take_all (length xs - n) (drop n xs) (omega (arith, length-drop n xs))

-- one address more with all behind it
pub pairs_step : (g : AddressPair → List PointFault) (xs rest : List HandedAddress) (i : ℕ) (d : HandedAddress) (found next all : Option PointFault) →
    i < length xs → rest ≡ drop (i + 1) xs →
    least found (flat_map g (pairs_of (drop i xs))) ≡ all → next ≡ least found (flat_map (λ y. g (pair (get_or xs i d) y)) rest) →
    least next (flat_map g (pairs_of (drop (i + 1) xs))) ≡ all
pairs_step g xs rest i d found next all lt is before e =
    ap (λ f. least f (flat_map g (pairs_of (drop (i + 1) xs)))) (e ∙ ap (λ ys. least found (flat_map (λ y. g (pair (get_or xs i d) y)) ys)) is
    ∙ ap (least found) (sym (flat_map-map g (pair (get_or xs i d)) (drop (i + 1) xs))))
    ∙ sym (least-append found (flat_map g (map (pair (get_or xs i d)) (drop (i + 1) xs))) (flat_map g (pairs_of (drop (i + 1) xs))))
    ∙ ap (least found) (sym (flat_map-append g (map (pair (get_or xs i d)) (drop (i + 1) xs)) (pairs_of (drop (i + 1) xs))))
    ∙ sym (at_drop_more (λ ys. least found (flat_map g (pairs_of ys))) xs i d lt) ∙ before

module _ (sources : List Source) (subject : ValueId) where
  -- the second address of the first pair that crosses with the subject
  abbrev pub crossed : List HandedAddress → Option ValueId
  crossed operands = option_map second_of (find (crosses sources subject) (pairs_of operands))

  -- one pair more
  one_more : (a y : HandedAddress) (ys : List HandedAddress) (o : Bool) → (a.address.0 == subject.0) ≡ true → clashes_with sources a y ≡ o →
      option_map second_of (find (crosses sources subject) (map (pair a) ys)) ≡ option_map address_of (find (clashes_with sources a) ys) →
      option_map second_of (find (crosses sources subject) (map (pair a) (y ∷ ys))) ≡ option_map address_of (find (clashes_with sources a) (y ∷ ys))
  one_more a y ys true e clash rest =
      ap (λ b. option_map second_of (cond b (Some (pair a y)) (find (crosses sources subject) (map (pair a) ys)))) (crossing ∙ clash)
      ∙ ap (λ b. option_map address_of (cond b (Some y) (find (clashes_with sources a) ys))) (sym clash)
    where
      crossing : crosses sources subject (pair a y) ≡ clashes_with sources a y
      crossing = ap (λ b. b && clashes_with sources a y) e
  one_more a y ys false e clash rest =
      ap (λ b. option_map second_of (cond b (Some (pair a y)) (find (crosses sources subject) (map (pair a) ys)))) (crossing ∙ clash) ∙ rest
      ∙ ap (λ b. option_map address_of (cond b (Some y) (find (clashes_with sources a) ys))) (sym clash)
    where
      crossing : crosses sources subject (pair a y) ≡ clashes_with sources a y
      crossing = ap (λ b. b && clashes_with sources a y) e

  -- of pairs with one first address
  with_one : (a : HandedAddress) (b : Bool) → (a.address.0 == subject.0) ≡ b → (ys : List HandedAddress) →
      option_map second_of (find (crosses sources subject) (map (pair a) ys)) ≡ cond b (option_map address_of (find (clashes_with sources a) ys)) None
  with_one a true e [] = refl
  with_one a false e [] = refl
  with_one a true e (y ∷ ys) = one_more a y ys (clashes_with sources a y) e refl (with_one a true e ys)
  with_one a false e (y ∷ ys) =
      ap (λ b. option_map second_of (cond (b && clashes_with sources a y) (Some (pair a y)) (find (crosses sources subject) (map (pair a) ys)))) e
      ∙ with_one a false e ys

  after : (o p : Option AddressPair) → option_map second_of (option_or o p) ≡ option_or (option_map second_of o) (option_map second_of p)
  after None p = refl
  after (Some x) p = refl

  -- the first that crosses with the next address, which may be the subject
  abbrev pub crossing : List HandedAddress → ℕ → HandedAddress → List HandedAddress → Option ValueId
  crossing xs i d rest = cond ((get_or xs i d).address.0 == subject.0) (option_map address_of (find (clashes_with sources (get_or xs i d)) rest)) None

  -- one address more
  crossed_step : (xs : List HandedAddress) (i : ℕ) (d : HandedAddress) → i < length xs →
      crossed (drop i xs) ≡ option_or (crossing xs i d (drop (i + 1) xs)) (crossed (drop (i + 1) xs))
  crossed_step xs i d lt =
      at_drop_more crossed xs i d lt
      ∙ ap (option_map second_of) (find-append (crosses sources subject) (map (pair (get_or xs i d)) (drop (i + 1) xs)) (pairs_of (drop (i + 1) xs)))
      ∙ after (find (crosses sources subject) (map (pair (get_or xs i d)) (drop (i + 1) xs))) (find (crosses sources subject) (pairs_of (drop (i + 1) xs)))
      ∙ ap (λ o. option_or o (crossed (drop (i + 1) xs))) (with_one (get_or xs i d) ((get_or xs i d).address.0 == subject.0) refl (drop (i + 1) xs))

  some_first : (r o : Option ValueId) → is_some r ≡ true → option_or r o ≡ r
  some_first None o h = absurd cc
  some_first (Some v) o h = refl

  none_first : (r o : Option ValueId) → is_some r ≡ false → option_or r o ≡ o
  none_first None o h = refl
  none_first (Some v) o h = absurd cc

  -- there is one
  pub crossed_here : (xs rest : List HandedAddress) (i : ℕ) (d : HandedAddress) (r : Option ValueId) →
      i < length xs → rest ≡ drop (i + 1) xs → r ≡ crossing xs i d rest → is_some r ≡ true → r ≡ crossed (drop i xs)
  crossed_here xs rest i d r lt is e some =
      sym (some_first r (crossed (drop (i + 1) xs)) some) ∙ ap (λ o. option_or o (crossed (drop (i + 1) xs))) (e ∙ ap (crossing xs i d) is) ∙ sym (crossed_step xs i d lt)

  -- there is none
  pub crossed_past : (xs rest : List HandedAddress) (i : ℕ) (d : HandedAddress) (r : Option ValueId) →
      i < length xs → rest ≡ drop (i + 1) xs → r ≡ crossing xs i d rest → is_some r ≡ false →
      crossed (drop (i + 1) xs) ≡ crossed (drop i xs)
  crossed_past xs rest i d r lt is e none =
      sym (none_first r (crossed (drop (i + 1) xs)) none) ∙ ap (λ o. option_or o (crossed (drop (i + 1) xs))) (e ∙ ap (crossing xs i d) is) ∙ sym (crossed_step xs i d lt)
