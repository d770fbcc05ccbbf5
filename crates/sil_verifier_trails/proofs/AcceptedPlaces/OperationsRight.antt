-- What an item does breaks neither 608 nor 611, which hold at each point whether a walk goes there or not.
use Rattle.std.proofs.Common.{◌≡◌, ℕ, List, [], ◌∷◌, ◌++◌, find, length, map, refl, sym, ap, ◌∙◌, subst, arith, Bool, true, false, inl, inr, Option, Some, None}
use Rattle.std.specs.Prelude.{Contains, ◌&&◌, ◌==◌, cond, filter, not, option_map, slice_get}
use Rattle.std.specs.List.{flat_map}
use Rattle.std.proofs.lemmas.Bool.{false≢true}
use Rattle.std.proofs.lemmas.Bool.Decides.{nat_tests}
use Rattle.std.proofs.lemmas.Option.{none-some, same_Some}
use Rattle.argument_conventions.specs.declared.row.AddressRow.{AddressRow}
use Rattle.sil_cfg_items.specs.Parts.{inst_in, item_inst, terminator_in}
use Rattle.sil_verifier_values.specs.memory_rules_accesses.Locations.{do_overlap}
use Rattle.sil_verifier_values.specs.memory_rules_accesses.Operations.{addresses_of, deallocates, operations_of}
use Rattle.sil_verifier_values.specs.memory_rules_accesses.Rows.{has_operation}
use Rattle.sil_verifier_values.specs.memory_rules_accesses.Sources.{is_slot, sources_of}
use Rattle.sil_verifier_values.specs.memory_rules_accesses.declared.access.Operated.{Operated}
use Rattle.sil_verifier_values.specs.memory_rules_accesses.declared.access.Operation.{Operation}
use Rattle.sil_verifier_values.specs.memory_rules_accesses.declared.access.Operation.TheVariants.{FirstWrite, Handed, Lend, Read, Take, TrivialStore, Write}
use Rattle.sil_verifier_values.specs.memory_rules.Broken.{static}
use Rattle.sil_verifier_values.specs.memory_rules.Statics.{AddressPair, IsBrokenAt, address_in, crosses, do_clash, handed, handed_by, handed_of, is_no_slot}
use Rattle.sil_verifier_values.specs.memory_rules.Statics.{lacking_at, lacks, pair, pairs_of, second_of}
use Rattle.sil_verifier_values.specs.memory_rules.Statics.IsBrokenAt.{lacking, overlapping}
use Rattle.numbered_form.specs.PointChecks.Points.{IsAt}
use Rattle.numbered_form.proofs.PointChecks.Among.{Among, among_contained, among_left, among_map, among_right, contained_among}
use Rattle.sil_ast.specs.declared.function.Block.{Block}
use Rattle.sil_ast.specs.declared.function.Function.{Function}
use Rattle.sil_ast.specs.declared.inst.Inst.{Inst}
use Rattle.sil_ast.specs.declared.place.ValueId.{ValueId}
use Rattle.sil_cfg.specs.Items.{point_at}
use Rattle.sil_cfg.specs.declared.item.Item.{Item}
use Rattle.sil_cfg.specs.declared.item.Item.TheVariants as item
use Rattle.sil_rules.specs.declared.rule.Rule.{Rule}
use Rattle.sil_rules.specs.declared.rule.Rule.TheVariants as rule
use Rattle.sil_verifier_values.specs.sil_verifier_accepted.AcceptedModules.Shown.{memory}
use Rattle.sil_verifier_values.specs.sil_types_declarations.TypeDefinitions.Declarations.{Declarations}
use Rattle.sil_verifier_values.proofs.holder_model_typing.RunTypingLaws.Rows.Points.{in_front}
use Rattle.sil_verifier_trails.specs.AcceptedTrails.inner.Accepted.{IsAcceptedIn}
use Rattle.sil_verifier_trails.specs.AcceptedPlaces.inner.Operations.{AreApart, AreOfSlots, AreRowsRight}

-- ---- the instruction of an item stands at a point

last_there : {A : Type 0} (xs : List A) (x : A) → slice_get (xs ++ x ∷ []) (length xs) ≡ Some x
last_there [] x = refl
last_there (y ∷ xs) x = last_there xs x

abbrev Somewhere : Function → Inst → Type 0
Somewhere f i = (n k : ℕ) × IsAt f n k i

inst_stands : (f : Function) (n k : ℕ) (o : Option Block) → slice_get f.blocks n ≡ o → (i : Inst) → inst_in o k ≡ Some i → Somewhere f i
inst_stands f n k None is i e = absurd (none-some i e)
inst_stands f n k (Some b) is i e = (n, k, record { within = b; is_block = is; is_inst = in_front b.insts (b.terminator ∷ []) k i e })

terminator_stands : (f : Function) (n : ℕ) (o : Option Block) → slice_get f.blocks n ≡ o → (i : Inst) → terminator_in o ≡ Some i → Somewhere f i
terminator_stands f n None is i e = absurd (none-some i e)
terminator_stands f n (Some b) is i e =
    let same : b.terminator ≡ i = same_Some b.terminator i e in
    (n, length b.insts, record { within = b; is_block = is; is_inst = last_there b.insts b.terminator ∙ ap Some same })

pub stands_somewhere : (f : Function) (item : Item) (i : Inst) → item_inst f item ≡ Some i → Somewhere f i
stands_somewhere f item.Entry i e = absurd (none-some i e)
stands_somewhere f (item.Inst p) i e = inst_stands f p.block.0 p.index (slice_get f.blocks p.block.0) refl i e
stands_somewhere f (item.Edge x) i e = terminator_stands f x.block.0 (slice_get f.blocks x.block.0) refl i e
stands_somewhere f (item.Exit p) i e = terminator_stands f p.block.0 (slice_get f.blocks p.block.0) refl i e

-- ---- lists

filtered_among : {A : Type 0} (p : A → Bool) (xs : List A) (x : A) → Among x xs → p x ≡ true → Among x (filter p xs)
filtered_among p [] x h e = absurd h
filtered_among p (z ∷ xs) x h e = by (λ a. filtered_among p xs x a e) (p z) refl h
  where
    by : (Among x xs → Among x (filter p xs)) → (b : Bool) → p z ≡ b → Among x (z ∷ xs) → Among x (filter p (z ∷ xs))
    by rest true is (inl same) = subst (λ b. Among x (cond b (z ∷ filter p xs) (filter p xs))) (sym is) (inl same)
    by rest true is (inr a) = subst (λ b. Among x (cond b (z ∷ filter p xs) (filter p xs))) (sym is) (inr (rest a))
    by rest false is (inl same) = absurd (let both : true ≡ false = sym e ∙ ap p same ∙ is in cc)
    by rest false is (inr a) = subst (λ b. Among x (cond b (z ∷ filter p xs) (filter p xs))) (sym is) (rest a)

some_found : {A : Type 0} (p : A → Bool) (xs : List A) (x : A) → Among x xs → p x ≡ true → (y : A) × (find p xs ≡ Some y)
some_found p [] x h e = absurd h
some_found {A} p (z ∷ xs) x h e = by (λ a. some_found p xs x a e) (p z) refl h
  where
    further : p z ≡ false → (y : A) × (find p xs ≡ Some y) → (y : A) × (find p (z ∷ xs) ≡ Some y)
    further is r = (r.0, ap (λ c. cond c (Some z) (find p xs)) is ∙ r.1)

    by : (Among x xs → (y : A) × (find p xs ≡ Some y)) → (b : Bool) → p z ≡ b → Among x (z ∷ xs) → (y : A) × (find p (z ∷ xs) ≡ Some y)
    by rest true is a = (z, ap (λ c. cond c (Some z) (find p xs)) is)
    by rest false is (inl same) = absurd (let both : true ≡ false = sym e ∙ ap p same ∙ is in cc)
    by rest false is (inr a) = further is (rest a)

-- one that is handed over, and one behind it
abbrev pair_of : Operated → Operated → AddressRow → AddressRow → AddressPair
pair_of x y one other = record {
  first = record { address = x.address; shared = one.shared };
  second = record { address = y.address; shared = other.shared };
}

module _ (x y : Operated) (one other : AddressRow) (is_one : x.operation ≡ Handed one) (is_other : y.operation ≡ Handed other) where
  abbrev both : AddressPair
  both = pair_of x y one other

  second_among : (between rest : List Operated) → Among both.second (flat_map handed (between ++ y ∷ rest))
  second_among [] rest = subst (λ o. Among both.second (handed_by o y.address ++ flat_map handed rest)) (sym is_other) (inl refl)
  second_among (z ∷ between) rest = among_right both.second (handed z) (flat_map handed (between ++ y ∷ rest)) (second_among between rest)

  pushed : (o : Operation) (v : ValueId) (xs : List Operated) → Among both (pairs_of (flat_map handed xs)) → Among both (pairs_of (handed_by o v ++ flat_map handed xs))
  pushed FirstWrite v xs a = a
  pushed Read v xs a = a
  pushed Lend v xs a = a
  pushed Write v xs a = a
  pushed TrivialStore v xs a = a
  pushed (Handed row) v xs a = among_right both _ (pairs_of (flat_map handed xs)) a
  pushed Take v xs a = a

  pair_among : (before between rest : List Operated) → Among both (pairs_of (flat_map handed (before ++ x ∷ (between ++ y ∷ rest))))
  pair_among [] between rest =
      subst (λ o. Among both (pairs_of (handed_by o x.address ++ flat_map handed (between ++ y ∷ rest)))) (sym is_one)
      (among_left both (map (pair both.first) (flat_map handed (between ++ y ∷ rest))) (pairs_of (flat_map handed (between ++ y ∷ rest)))
      (among_map (pair both.first) both.second (flat_map handed (between ++ y ∷ rest)) (second_among between rest)))
  pair_among (z ∷ before) between rest = pushed z.operation z.address (before ++ x ∷ (between ++ y ∷ rest)) (pair_among before between rest)

-- ---- nothing is broken

module _ (d : Declarations) (f : Function) (accepted : IsAcceptedIn d f) where
  none_broken : (n k : ℕ) (r : Rule) (v : ValueId) (o : Option ValueId) → IsBrokenAt (sources_of d f) f r v o n k → ⊥
  none_broken n k r v o h =
      accepted.clean (record { rule = r; subject = v; other = o; point = point_at n k; walk = [] }) (memory (static refl h))

  none_lacks : (item : Item) (i : Inst) → item_inst f item ≡ Some i → (v : ValueId) → Among v (lacking_at (sources_of d f) i) → ⊥
  none_lacks item i e v a =
      let at = stands_somewhere f item i e in
      none_broken at.0 at.1 rule.PartialAccess v None (lacking at.0 at.1 i v at.2 (contained_among v (lacking_at (sources_of d f) i) a))

  operation_there : (item : Item) (i : Inst) → item_inst f item ≡ Some i → (x : Operated) → Contains (operations_of i) x → lacks (sources_of d f) x ≡ false
  operation_there item i e x c = by (lacks (sources_of d f) x) refl
    where
      by : (b : Bool) → lacks (sources_of d f) x ≡ b → b ≡ false
      by false is = refl
      by true is =
          absurd (none_lacks item i e x.address (among_left x.address (map address_in (filter (lacks (sources_of d f)) (operations_of i)))
          (cond (deallocates i) (filter (is_no_slot (sources_of d f)) (addresses_of i)) [])
          (among_map address_in x (filter (lacks (sources_of d f)) (operations_of i))
          (filtered_among (lacks (sources_of d f)) (operations_of i) x (among_contained x (operations_of i) c) is))))

  slot_there : (item : Item) (i : Inst) → item_inst f item ≡ Some i → deallocates i ≡ true → (v : ValueId) → Contains (addresses_of i) v
      → is_no_slot (sources_of d f) v ≡ false
  slot_there item i e deallocating v c = by (is_no_slot (sources_of d f) v) refl
    where
      by : (b : Bool) → is_no_slot (sources_of d f) v ≡ b → b ≡ false
      by false is = refl
      by true is =
          absurd (none_lacks item i e v (among_right v (map address_in (filter (lacks (sources_of d f)) (operations_of i)))
          (cond (deallocates i) (filter (is_no_slot (sources_of d f)) (addresses_of i)) [])
          (subst (λ b. Among v (cond b (filter (is_no_slot (sources_of d f)) (addresses_of i)) [])) (sym deallocating)
          (filtered_among (is_no_slot (sources_of d f)) (addresses_of i) v (among_contained v (addresses_of i) c) is))))

  none_clash : (item : Item) (i : Inst) → item_inst f item ≡ Some i → (p : AddressPair) → Among p (pairs_of (handed_of i)) → do_clash (sources_of d f) p ≡ false
  none_clash item i e p a = by (do_clash (sources_of d f) p) refl
    where
      by : (b : Bool) → do_clash (sources_of d f) p ≡ b → b ≡ false
      by false is = refl
      by true is =
          let itself : (p.first.address.0 == p.first.address.0) ≡ true = grind (arith, nat_tests) in
          let crossing : crosses (sources_of d f) p.first.address p ≡ true = ap (λ b. b && do_clash (sources_of d f) p) itself ∙ is in
          let q = some_found (crosses (sources_of d f) p.first.address) (pairs_of (handed_of i)) p a crossing in
          let at = stands_somewhere f item i e in
          absurd (none_broken at.0 at.1 rule.InoutOverlap p.first.address (Some q.0.second.address)
          (overlapping at.0 at.1 i p.first.address q.0.second.address at.2 (ap (option_map second_of) q.1)))

not_false : (b : Bool) → not b ≡ false → b ≡ true
not_false true e = refl
not_false false e = absurd (false≢true (sym e))

pub rows_right : AreRowsRight
rows_right d f accepted item i e x c l is =
    not_false (has_operation (sources_of d f) l x.operation)
    (let none : lacks (sources_of d f) x ≡ false = operation_there d f accepted item i e x c in
    let here : lacks (sources_of d f) x ≡ not (has_operation (sources_of d f) l x.operation) = rw is in sym here ∙ none)

pub of_slots : AreOfSlots
of_slots d f accepted item i e deallocating v c = not_false (is_slot (sources_of d f) v) (slot_there d f accepted item i e deallocating v c)

pub are_apart : AreApart
are_apart d f accepted item i e before between rest x y one other parts is_one is_other shared =
    let clear : do_clash (sources_of d f) (pair_of x y one other) ≡ false =
    none_clash d f accepted item i e (pair_of x y one other)
    (subst (λ xs. Among (pair_of x y one other) (pairs_of (flat_map handed xs))) (sym parts) (pair_among x y one other is_one is_other before between rest)) in
    sym (ap (λ s. not s && do_overlap (sources_of d f) x.address y.address) shared) ∙ clear
