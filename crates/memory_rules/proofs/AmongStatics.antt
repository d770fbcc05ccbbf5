-- The faults of 608 and 611 of a function are those that are broken.
use Rattle.std.proofs.Common.{◌≡◌, ℕ, List, [], ◌∷◌, find, map, refl, sym, ap, ◌∙◌, subst, arith, ◌⊎◌, inl, inr, Bool, true, false, Option, Some, None}
use Rattle.std.specs.Prelude.{Contains, ◌&&◌, ◌==◌, cond, filter, option_map}
use Rattle.std.specs.List.{flat_map}
use Rattle.std.proofs.lemmas.Bool.{and_parts}
use Rattle.std.proofs.lemmas.Bool.Decides.{nat_tests}
use Rattle.sil_ast.specs.declared.function.Function.{Function}
use Rattle.sil_ast.specs.declared.inst.Inst.{Inst}
use Rattle.sil_ast.specs.declared.place.ValueId.{ValueId}
use Rattle.sil_rules.specs.declared.rule.Rule.{Rule}
use Rattle.sil_rules.specs.declared.rule.Rule.TheVariants as rule
use Rattle.numbered_form.specs.PointChecks.Points.{IsAt}
use Rattle.numbered_form.specs.PointChecks.inner.Faults.{fault_at}
use Rattle.numbered_form.specs.declared.point_checks.fault.PointFault.{PointFault}
use Rattle.numbered_form.proofs.PointChecks.Among.{Among, among_contained, among_either, among_flat, among_left, among_map, among_right, among_where}
use Rattle.numbered_form.proofs.PointChecks.Among.{contained_among, flat_among, map_among, where_among}
use Rattle.numbered_form.proofs.PointChecks.FaultsOf.{IsFound, found, inst_in_faults}
use Rattle.numbered_form.proofs.PointChecks.FaultsOf.IsFound.{at_args, at_inst}
use Rattle.memory_rules_accesses.specs.declared.access.Operated.{Operated}
use Rattle.memory_rules_accesses.specs.declared.source.Source.{Source}
use Rattle.memory_rules_accesses.specs.Operations.{addresses_of, deallocates, operations_of}
use Rattle.memory_rules.specs.inner.StaticFaults.{deallocation_faults, lacking_faults, no_args_faults, no_slot_faults, operated_faults}
use Rattle.memory_rules.specs.inner.StaticFaults.{other_by, overlap_faults, pair_faults, statics_at, statics_of}
use Rattle.memory_rules.specs.Statics.{AddressPair, IsBrokenAt, address_in, crossed_with, crosses, do_clash, handed_of, is_no_slot}
use Rattle.memory_rules.specs.Statics.{lacking_at, lacks, pairs_of, second_of}
use Rattle.memory_rules.specs.Statics.IsBrokenAt.{overlapping, lacking}

-- what is found is one of the list, and passes
found_among : {A : Type 0} (p : A → Bool) (xs : List A) (x : A) → find p xs ≡ Some x → Among x xs × (p x ≡ true)
found_among p [] x h = absurd cc
found_among {A} p (z ∷ xs) x h = by (λ g. found_among p xs x g) (p z) refl
  where
    further : Among x xs × (p x ≡ true) → Among x (z ∷ xs) × (p x ≡ true)
    further r = (inr r.0, r.1)

    by : (find p xs ≡ Some x → Among x xs × (p x ≡ true)) → (b : Bool) → p z ≡ b → Among x (z ∷ xs) × (p x ≡ true)
    by rest true e = let same : z ≡ x = (let o : Some z ≡ Some x = ap (λ b. cond b (Some z) (find p xs)) (sym e) ∙ h in cc) in (inl (sym same), subst (λ y. p y ≡ true) same e)
    by rest false e = further (rest (ap (λ b. cond b (Some z) (find p xs)) (sym e) ∙ h))

-- where one of a list passes, one is found
some_found : {A : Type 0} (p : A → Bool) (xs : List A) (x : A) → Among x xs → p x ≡ true → (y : A) × (find p xs ≡ Some y)
some_found p [] x h e = absurd h
some_found {A} p (z ∷ xs) x h e = by (λ a. some_found p xs x a e) (p z) refl h
  where
    further : p z ≡ false → (y : A) × (find p xs ≡ Some y) → (y : A) × (find p (z ∷ xs) ≡ Some y)
    further is r = (r.0, ap (λ c. cond c (Some z) (find p xs)) is ∙ r.1)

    by : (Among x xs → (y : A) × (find p xs ≡ Some y)) → (b : Bool) → p z ≡ b → Among x (z ∷ xs) → (y : A) × (find p (z ∷ xs) ≡ Some y)
    by rest true is a = (z, ap (λ c. cond c (Some z) (find p xs)) is)
    by rest false is (inl same) = absurd (let both : true ≡ false = sym e ∙ ap p same ∙ is in cc)
    by rest false is (inr a) = further is (rest a)

filtered_among : {A : Type 0} (p : A → Bool) (xs : List A) (x : A) → Among x xs → p x ≡ true → Among x (filter p xs)
filtered_among p [] x h e = absurd h
filtered_among p (z ∷ xs) x h e = by (λ a. filtered_among p xs x a e) (p z) refl h
  where
    by : (Among x xs → Among x (filter p xs)) → (b : Bool) → p z ≡ b → Among x (z ∷ xs) → Among x (filter p (z ∷ xs))
    by rest true is (inl same) = subst (λ b. Among x (cond b (z ∷ filter p xs) (filter p xs))) (sym is) (inl same)
    by rest true is (inr a) = subst (λ b. Among x (cond b (z ∷ filter p xs) (filter p xs))) (sym is) (inr (rest a))
    by rest false is (inl same) = absurd (let both : true ≡ false = sym e ∙ ap p same ∙ is in cc)
    by rest false is (inr a) = subst (λ b. Among x (cond b (z ∷ filter p xs) (filter p xs))) (sym is) (rest a)

among_filtered : {A : Type 0} (p : A → Bool) (xs : List A) (x : A) → Among x (filter p xs) → Among x xs × (p x ≡ true)
among_filtered p [] x h = absurd h
among_filtered p (z ∷ xs) x h = by (λ a. among_filtered p xs x a) (p z) refl
  where
    further : Among x xs × (p x ≡ true) → Among x (z ∷ xs) × (p x ≡ true)
    further r = (inr r.0, r.1)

    first : (Among x (filter p xs) → Among x xs × (p x ≡ true)) → p z ≡ true → Among x (z ∷ filter p xs) → Among x (z ∷ xs) × (p x ≡ true)
    first rest is (inl same) = (inl same, ap p same ∙ is)
    first rest is (inr a) = further (rest a)

    by : (Among x (filter p xs) → Among x xs × (p x ≡ true)) → (b : Bool) → p z ≡ b → Among x (z ∷ xs) × (p x ≡ true)
    by rest true is = first rest is (subst (λ b. Among x (cond b (z ∷ filter p xs) (filter p xs))) is h)
    by rest false is = further (rest (subst (λ b. Among x (cond b (z ∷ filter p xs) (filter p xs))) is h))

same_value : (a b : ValueId) → (a.0 == b.0) ≡ true → a ≡ b
same_value a b h = let same : a.0 ≡ b.0 = grind (arith, nat_tests) in ap (λ n. record { 0 = n }) same

value_same : (a b : ValueId) → a.0 ≡ b.0 → (a.0 == b.0) ≡ true
value_same a b e = grind (arith, nat_tests)

mapped_some : (o : Option AddressPair) (b : ValueId) → option_map second_of o ≡ Some b → (p : AddressPair) × (o ≡ Some p)
mapped_some None b h = absurd cc
mapped_some (Some p) b h = (p, refl)

module _ (sources : List Source) (f : Function) where
  -- the rule is broken at the point, with the other value that the instruction there gives
  abbrev pub Breaks : PointFault → Inst → Type 0
  Breaks y i = (o : Option ValueId) → o ≡ other_by sources y.rule i y.subject → IsBrokenAt sources f y.rule y.subject o y.point.block.0 y.point.index

  -- what is among the faults is broken

  pair_breaks : (n k : ℕ) (i : Inst) (p : AddressPair) → IsAt f n k i → Among p (pairs_of (handed_of i)) → do_clash sources p ≡ true →
      Breaks (fault_at n k rule.InoutOverlap p.first.address) i
  pair_breaks n k i p at among over o is = with_other (some_found (crosses sources p.first.address) (pairs_of (handed_of i)) p among crossing)
    where
      crossing : crosses sources p.first.address p ≡ true
      crossing = ap (λ b. b && do_clash sources p) (value_same p.first.address p.first.address refl) ∙ over

      with_other : (q : AddressPair) × (find (crosses sources p.first.address) (pairs_of (handed_of i)) ≡ Some q) → IsBrokenAt sources f rule.InoutOverlap p.first.address o n k
      with_other q =
          let found : crossed_with sources i p.first.address ≡ Some q.0.second.address = ap (option_map second_of) q.1 in
          subst (λ x. IsBrokenAt sources f rule.InoutOverlap p.first.address x n k) (sym (is ∙ found)) (overlapping n k i p.first.address q.0.second.address at found)

  overlap_breaks : (n k : ℕ) (i : Inst) (y : PointFault) → IsAt f n k i → Among y (overlap_faults sources n k i) → Breaks y i
  overlap_breaks n k i y at h = by (flat_among (pair_faults sources n k) y (pairs_of (handed_of i)) h)
    where
      by : (p : AddressPair) × Among p (pairs_of (handed_of i)) × Among y (pair_faults sources n k p) → Breaks y i
      by r =
          let w : (do_clash sources r.0 ≡ true) × (y ≡ fault_at n k rule.InoutOverlap r.0.first.address) =
          where_among (do_clash sources r.0) (fault_at n k rule.InoutOverlap r.0.first.address) y r.2 in
          subst (λ z. Breaks z i) (sym w.1) (pair_breaks n k i r.0 at r.1 w.0)

  address_breaks : (n k : ℕ) (i : Inst) (a : ValueId) → IsAt f n k i → Among a (lacking_at sources i) → Breaks (fault_at n k rule.PartialAccess a) i
  address_breaks n k i a at among o is =
      subst (λ x. IsBrokenAt sources f rule.PartialAccess a x n k) (sym is) (lacking n k i a at (contained_among a (lacking_at sources i) among))

  abbrev operated_part : Inst → List ValueId
  operated_part i = map address_in (filter (lacks sources) (operations_of i))

  abbrev deallocated_part : Inst → List ValueId
  deallocated_part i = cond (deallocates i) (filter (is_no_slot sources) (addresses_of i)) []

  operated_breaks : (n k : ℕ) (i : Inst) (y : PointFault) → IsAt f n k i → Among y (flat_map (operated_faults sources n k) (operations_of i)) → Breaks y i
  operated_breaks n k i y at h = by (flat_among (operated_faults sources n k) y (operations_of i) h)
    where
      by : (x : Operated) × Among x (operations_of i) × Among y (operated_faults sources n k x) → Breaks y i
      by r =
          let w : (lacks sources r.0 ≡ true) × (y ≡ fault_at n k rule.PartialAccess r.0.address) = where_among (lacks sources r.0) (fault_at n k rule.PartialAccess r.0.address) y r.2 in
          subst (λ z. Breaks z i) (sym w.1) (address_breaks n k i r.0.address at
          (among_left r.0.address (operated_part i) (deallocated_part i)
          (among_map address_in r.0 (filter (lacks sources) (operations_of i)) (filtered_among (lacks sources) (operations_of i) r.0 r.1 w.0))))

  deallocation_breaks : (n k : ℕ) (i : Inst) (y : PointFault) → IsAt f n k i → Among y (deallocation_faults sources n k i) → Breaks y i
  deallocation_breaks n k i y at h = when (deallocates i) refl
    where
      by : deallocates i ≡ true → (v : ValueId) × Among v (addresses_of i) × Among y (no_slot_faults sources n k v) → Breaks y i
      by is r =
          let w : (is_no_slot sources r.0 ≡ true) × (y ≡ fault_at n k rule.PartialAccess r.0) = where_among (is_no_slot sources r.0) (fault_at n k rule.PartialAccess r.0) y r.2 in
          subst (λ z. Breaks z i) (sym w.1) (address_breaks n k i r.0 at
          (among_right r.0 (operated_part i) (deallocated_part i)
          (subst (λ b. Among r.0 (cond b (filter (is_no_slot sources) (addresses_of i)) [])) (sym is) (filtered_among (is_no_slot sources) (addresses_of i) r.0 r.1 w.0))))

      when : (b : Bool) → deallocates i ≡ b → Breaks y i
      when true is =
          by is
          (flat_among (no_slot_faults sources n k) y (addresses_of i)
          (subst (λ b. Among y (cond b (flat_map (no_slot_faults sources n k) (addresses_of i)) [])) is h))
      when false is = absurd (subst (λ b. Among y (cond b (flat_map (no_slot_faults sources n k) (addresses_of i)) [])) is h)

  inst_breaks : (n k : ℕ) (i : Inst) (y : PointFault) → IsAt f n k i → Among y (statics_at sources n k i) → Breaks y i
  inst_breaks n k i y at h = first (among_either y (overlap_faults sources n k i) (lacking_faults sources n k i) h)
    where
      second : Among y (flat_map (operated_faults sources n k) (operations_of i)) ⊎ Among y (deallocation_faults sources n k i) → Breaks y i
      second (inl a) = operated_breaks n k i y at a
      second (inr a) = deallocation_breaks n k i y at a

      first : Among y (overlap_faults sources n k i) ⊎ Among y (lacking_faults sources n k i) → Breaks y i
      first (inl a) = overlap_breaks n k i y at a
      first (inr a) = second (among_either y (flat_map (operated_faults sources n k) (operations_of i)) (deallocation_faults sources n k i) a)

  point_of : (n k : ℕ) (i : Inst) (y : PointFault) → Among y (statics_at sources n k i) → (y.point.block.0 ≡ n) × (y.point.index ≡ k)
  point_of n k i y h = first (among_either y (overlap_faults sources n k i) (lacking_faults sources n k i) h)
    where
      at : (r : Rule) (v : ValueId) → y ≡ fault_at n k r v → (y.point.block.0 ≡ n) × (y.point.index ≡ k)
      at r v e = (ap (λ z. z.point.block.0) e, ap (λ z. z.point.index) e)

      of_pair : (p : AddressPair) × Among p (pairs_of (handed_of i)) × Among y (pair_faults sources n k p) → (y.point.block.0 ≡ n) × (y.point.index ≡ k)
      of_pair r = at rule.InoutOverlap r.0.first.address (where_among (do_clash sources r.0) (fault_at n k rule.InoutOverlap r.0.first.address) y r.2).1

      of_operated : (x : Operated) × Among x (operations_of i) × Among y (operated_faults sources n k x) → (y.point.block.0 ≡ n) × (y.point.index ≡ k)
      of_operated r = at rule.PartialAccess r.0.address (where_among (lacks sources r.0) (fault_at n k rule.PartialAccess r.0.address) y r.2).1

      of_address : (v : ValueId) × Among v (addresses_of i) × Among y (no_slot_faults sources n k v) → (y.point.block.0 ≡ n) × (y.point.index ≡ k)
      of_address r = at rule.PartialAccess r.0 (where_among (is_no_slot sources r.0) (fault_at n k rule.PartialAccess r.0) y r.2).1

      of_deallocation : (b : Bool) → Among y (cond b (flat_map (no_slot_faults sources n k) (addresses_of i)) []) → (y.point.block.0 ≡ n) × (y.point.index ≡ k)
      of_deallocation true a = of_address (flat_among (no_slot_faults sources n k) y (addresses_of i) a)
      of_deallocation false a = absurd a

      second : Among y (flat_map (operated_faults sources n k) (operations_of i)) ⊎ Among y (deallocation_faults sources n k i) → (y.point.block.0 ≡ n) × (y.point.index ≡ k)
      second (inl a) = of_operated (flat_among (operated_faults sources n k) y (operations_of i) a)
      second (inr a) = of_deallocation (deallocates i) a

      first : Among y (overlap_faults sources n k i) ⊎ Among y (lacking_faults sources n k i) → (y.point.block.0 ≡ n) × (y.point.index ≡ k)
      first (inl a) = of_pair (flat_among (pair_faults sources n k) y (pairs_of (handed_of i)) a)
      first (inr a) = second (among_either y (flat_map (operated_faults sources n k) (operations_of i)) (deallocation_faults sources n k i) a)

  -- an instruction is at the fault's point, and there the fault's rule is broken
  abbrev pub BreaksAt : PointFault → Type 0
  BreaksAt y = (i : Inst) × IsAt f y.point.block.0 y.point.index i × Breaks y i

  pub faults_break : (y : PointFault) → Among y (statics_of sources f) → BreaksAt y
  faults_break y h = by (found f no_args_faults (statics_at sources) y h)
    where
      by : IsFound f no_args_faults (statics_at sources) y → BreaksAt y
      by (at_args n b at a) = absurd a
      by (at_inst n k i at a) =
          let here : (y.point.block.0 ≡ n) × (y.point.index ≡ k) = point_of n k i y a in
          (i, subst (λ m. IsAt f m y.point.index i) (sym here.0) (subst (λ l. IsAt f n l i) (sym here.1) at), inst_breaks n k i y at a)

  -- what is broken is among the faults

  in_faults : (n k : ℕ) (i : Inst) (y : PointFault) → IsAt f n k i → Among y (statics_at sources n k i) → Among y (statics_of sources f)
  in_faults n k i y at a = inst_in_faults f no_args_faults (statics_at sources) y n k i at a

  overlap_in_faults : (n k : ℕ) (i : Inst) (a b : ValueId) → crossed_with sources i a ≡ Some b → Among (fault_at n k rule.InoutOverlap a) (overlap_faults sources n k i)
  overlap_in_faults n k i a b e = by (mapped_some (find (crosses sources a) (pairs_of (handed_of i))) b e)
    where
      at : (p : AddressPair) → Among p (pairs_of (handed_of i)) × (crosses sources a p ≡ true) → Among (fault_at n k rule.InoutOverlap a) (overlap_faults sources n k i)
      at p r =
          let both : ((p.first.address.0 == a.0) ≡ true) × (do_clash sources p ≡ true) = and_parts (p.first.address.0 == a.0) (do_clash sources p) r.1 in
          among_flat (pair_faults sources n k) (fault_at n k rule.InoutOverlap a) p (pairs_of (handed_of i)) r.0
          (subst (λ v. Among (fault_at n k rule.InoutOverlap v) (pair_faults sources n k p)) (same_value p.first.address a both.0)
          (among_where (do_clash sources p) (fault_at n k rule.InoutOverlap p.first.address) both.1))

      by : (p : AddressPair) × (find (crosses sources a) (pairs_of (handed_of i)) ≡ Some p) → Among (fault_at n k rule.InoutOverlap a) (overlap_faults sources n k i)
      by r = at r.0 (found_among (crosses sources a) (pairs_of (handed_of i)) r.0 r.1)

  lacking_in_faults : (n k : ℕ) (i : Inst) (a : ValueId) → Contains (lacking_at sources i) a → Among (fault_at n k rule.PartialAccess a) (lacking_faults sources n k i)
  lacking_in_faults n k i a c = by (among_either a (operated_part i) (deallocated_part i) (among_contained a (lacking_at sources i) c))
    where
      operated : (x : Operated) → a ≡ address_in x → Among x (operations_of i) × (lacks sources x ≡ true) → Among (fault_at n k rule.PartialAccess a) (lacking_faults sources n k i)
      operated x is r =
          among_left (fault_at n k rule.PartialAccess a) (flat_map (operated_faults sources n k) (operations_of i)) (deallocation_faults sources n k i)
          (among_flat (operated_faults sources n k) (fault_at n k rule.PartialAccess a) x (operations_of i) r.0
          (subst (λ v. Among (fault_at n k rule.PartialAccess v) (operated_faults sources n k x)) (sym is) (among_where (lacks sources x) (fault_at n k rule.PartialAccess x.address) r.1)))

      of_operated : (x : Operated) × Among x (filter (lacks sources) (operations_of i)) × (a ≡ address_in x) → Among (fault_at n k rule.PartialAccess a) (lacking_faults sources n k i)
      of_operated r = operated r.0 r.2 (among_filtered (lacks sources) (operations_of i) r.0 r.1)

      no_slot : Among a (addresses_of i) × (is_no_slot sources a ≡ true) → Among (fault_at n k rule.PartialAccess a) (flat_map (no_slot_faults sources n k) (addresses_of i))
      no_slot r =
          among_flat (no_slot_faults sources n k) (fault_at n k rule.PartialAccess a) a (addresses_of i) r.0
          (among_where (is_no_slot sources a) (fault_at n k rule.PartialAccess a) r.1)

      deallocated : (b : Bool) → Among a (cond b (filter (is_no_slot sources) (addresses_of i)) []) →
          Among (fault_at n k rule.PartialAccess a) (cond b (flat_map (no_slot_faults sources n k) (addresses_of i)) [])
      deallocated true h = no_slot (among_filtered (is_no_slot sources) (addresses_of i) a h)
      deallocated false h = h

      by : Among a (operated_part i) ⊎ Among a (deallocated_part i) → Among (fault_at n k rule.PartialAccess a) (lacking_faults sources n k i)
      by (inl h) = of_operated (map_among address_in a (filter (lacks sources) (operations_of i)) h)
      by (inr h) =
          among_right (fault_at n k rule.PartialAccess a) (flat_map (operated_faults sources n k) (operations_of i)) (deallocation_faults sources n k i)
          (deallocated (deallocates i) h)

  pub broken_in_faults : (r : Rule) (v : ValueId) (o : Option ValueId) (n k : ℕ) → IsBrokenAt sources f r v o n k → Among (fault_at n k r v) (statics_of sources f)
  broken_in_faults _ _ _ _ _ (overlapping n k i a b at e) =
      in_faults n k i (fault_at n k rule.InoutOverlap a) at
      (among_left (fault_at n k rule.InoutOverlap a) (overlap_faults sources n k i) (lacking_faults sources n k i) (overlap_in_faults n k i a b e))
  broken_in_faults _ _ _ _ _ (lacking n k i a at c) =
      in_faults n k i (fault_at n k rule.PartialAccess a) at
      (among_right (fault_at n k rule.PartialAccess a) (overlap_faults sources n k i) (lacking_faults sources n k i) (lacking_in_faults n k i a c))
