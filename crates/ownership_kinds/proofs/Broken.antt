-- The faults of a function are those that are broken, of the values on rings the first alone.
use Rattle.std.proofs.Common.{◌≡◌, ◌≢◌, ℕ, ◌+◌, ◌<◌, ◌≤◌, List, [], ◌∷◌, ◌++◌, length, refl, sym, ap, ◌∙◌, subst, arith}
use Rattle.std.proofs.Common.{◌⊎◌, inl, inr, Bool, true, false, not, ◌&&◌, Option, Some, None}
use Rattle.std.specs.Prelude.{Contains, slice_get, map, nat_lt}
use Rattle.std.specs.List.{flat_map}
use Rattle.std.specs.Option.{option_to_list}
use Rattle.std.proofs.lemmas.Bool.{and_from, and_parts, cases_eq, not_from_false}
use Rattle.std.proofs.lemmas.Bool.Decides.{nat_tests}
use Rattle.sil_ast.specs.declared.function.Block.{Block}
use Rattle.sil_ast.specs.declared.function.BlockArg.{BlockArg}
use Rattle.sil_ast.specs.declared.function.Function.{Function}
use Rattle.sil_ast.specs.declared.inst.Inst.{Inst}
use Rattle.sil_ast.specs.declared.place.ValueId.{ValueId}
use Rattle.numbered_form.specs.Insts.{insts_of}
use Rattle.numbered_form.specs.Numbering.{AreCountedFrom, defined_in, results_of, values_of}
use Rattle.numbered_form.specs.Numbering as numbering
use Rattle.sil_rules.specs.Order.{NotAfter}
use Rattle.sil_rules.specs.declared.rule.Rule.{Rule}
use Rattle.sil_rules.specs.declared.rule.Rule.TheVariants as rule
use Rattle.sil_rules.proofs.Keys.{compared, not_after_refl}
use Rattle.sil_cfg_items.specs.declared.taken.Taken.{Taken}
use Rattle.numbered_form.specs.ValueTables.FirstValue.{first_value}
use Rattle.numbered_form.specs.ValueTables.Borrows.{borrows_of, is_borrow}
use Rattle.numbered_form.specs.PointChecks.Points.{IsAt, key_at}
use Rattle.numbered_form.specs.PointChecks.inner.Faults.{fault_at, key_of}
use Rattle.numbered_form.specs.declared.point_checks.fault.PointFault.{PointFault}
use Rattle.numbered_form.proofs.PointChecks.Among.{Among, among_contained, among_either, among_flat, among_left, among_map, among_option, among_right, among_where}
use Rattle.numbered_form.proofs.PointChecks.Among.{contained_among, flat_among, map_among, option_among, place_among, where_among}
use Rattle.numbered_form.proofs.PointChecks.FaultsOf.{IsFound, args_in_faults, found, inst_in_faults}
use Rattle.numbered_form.proofs.PointChecks.FaultsOf.IsFound.{at_args, at_inst}
use Rattle.sil_types_declarations.specs.TypeDefinitions.Declarations.{Declarations}
use Rattle.sil_types_declarations.specs.TypeDefinitions.Measures.{is_trivial}
use Rattle.ownership_kinds_origins.specs.Switched.{switch_to}
use Rattle.ownership_kinds_origins.specs.Facts.{kind_in}
use Rattle.ownership_kinds.specs.inner.Faults.{annotation_faults, arg_faults, args_faults, faults_of, inst_faults, is_one}
use Rattle.ownership_kinds.specs.inner.Faults.{lacking_faults, mixed_faults, needy_faults, ring_faults, taken_faults}
use Rattle.ownership_kinds.specs.inner.Known.{IsFirstOnRing, IsRingOf}
use Rattle.ownership_kinds.specs.Statics.{IsBroken, IsDefinedAt, IsOnRing, all_taken, is_annotated_well, is_mismatch, lacks_argument, mixed_operand, needs_argument}
use Rattle.ownership_kinds.specs.Statics.IsBroken.{on_ring, mixed, mismatch, annotated, lacking}
use Rattle.ownership_kinds.specs.Statics.IsDefinedAt.{result, argument}

not_true : (a : Bool) → not a ≡ true → a ≡ false
not_true true h = absurd cc
not_true false h = refl

is_that : (ring : Option ValueId) (v : ValueId) → is_one ring v ≡ true → ring ≡ Some v
is_that None v h = absurd cc
is_that (Some r) v h = let same : r.0 ≡ v.0 = grind (arith, nat_tests) in ap (λ n. Some (record { 0 = n })) same

that_is : (r v : ValueId) → r.0 ≡ v.0 → is_one (Some r) v ≡ true
that_is r v e = grind (arith, nat_tests)

module _ (d : Declarations) (f : Function) (ring : Option ValueId) where
  abbrev Breaks : PointFault → Type 0
  Breaks y = IsBroken d f y.rule y.subject y.point.block.0 y.point.index

  abbrev on_rings : IsRingOf d f ring → (v : ValueId) → ring ≡ Some v → IsOnRing d f v
  on_rings is v e = let first : IsFirstOnRing d f v = subst (IsRingOf d f) e is in first.on_ring

  -- what is among the faults is broken

  ring_breaks : IsRingOf d f ring → (v : ValueId) (n k : ℕ) (y : PointFault) → IsDefinedAt f v n k → Among y (ring_faults ring n k v) → Breaks y
  ring_breaks is v n k y at h =
      let w : (is_one ring v ≡ true) × (y ≡ fault_at n k rule.CyclicForwarding v) = where_among (is_one ring v) (fault_at n k rule.CyclicForwarding v) y h in
      subst Breaks (sym w.1) (on_ring v n k (on_rings is v (is_that ring v w.0)) at)

  results_break : IsRingOf d f ring → (n k : ℕ) (i : Inst) (y : PointFault) → IsAt f n k i → Among y (flat_map (ring_faults ring n k) i.results) → Breaks y
  results_break is n k i y at h =
      let r : (v : ValueId) × Among v i.results × Among y (ring_faults ring n k v) = flat_among (ring_faults ring n k) y i.results h in
      ring_breaks is r.0 n k y (result n k i at (contained_among r.0 i.results r.1)) r.2

  mixed_breaks : (n k : ℕ) (i : Inst) (y : PointFault) → IsAt f n k i → Among y (mixed_faults (kind_in d f) n k i) → Breaks y
  mixed_breaks n k i y at h =
      let r : (v : ValueId) × Among v (option_to_list (mixed_operand (kind_in d f) i)) × (y ≡ fault_at n k rule.MixedForwarding v) =
      map_among (fault_at n k rule.MixedForwarding) y (option_to_list (mixed_operand (kind_in d f) i)) h in
      subst Breaks (sym r.2) (mixed r.0 n k i at (option_among (mixed_operand (kind_in d f) i) r.0 r.1))

  taken_breaks : (n k : ℕ) (i : Inst) (y : PointFault) → IsAt f n k i → Among y (flat_map (taken_faults (kind_in d f) (borrows_of f) n k) (all_taken i)) → Breaks y
  taken_breaks n k i y at h =
      let r : (t : Taken) × Among t (all_taken i) × Among y (taken_faults (kind_in d f) (borrows_of f) n k t) = flat_among (taken_faults (kind_in d f) (borrows_of f) n k) y (all_taken i) h in
      let w : (is_mismatch (is_borrow f r.0.value) r.0.role (kind_in d f r.0.value) ≡ true) × (y ≡ fault_at n k rule.KindMismatch r.0.value) =
      where_among (is_mismatch (is_borrow f r.0.value) r.0.role (kind_in d f r.0.value)) (fault_at n k rule.KindMismatch r.0.value) y r.2 in
      subst Breaks (sym w.1) (mismatch n k i r.0 at (contained_among r.0 (all_taken i) r.1) w.0)

  lacking_breaks : (n k : ℕ) (i : Inst) (y : PointFault) → IsAt f n k i → Among y (lacking_faults (kind_in d f) f n k i) → Breaks y
  lacking_breaks n k i y at h =
      let r : (v : ValueId) × Among v (option_to_list (first_value i)) × Among y (needy_faults (kind_in d f) (lacks_argument f i) n k v) =
      flat_among (needy_faults (kind_in d f) (lacks_argument f i) n k) y (option_to_list (first_value i)) h in
      let w : ((lacks_argument f i && needs_argument (kind_in d f r.0)) ≡ true) × (y ≡ fault_at n k rule.ArgumentKind r.0) =
      where_among (lacks_argument f i && needs_argument (kind_in d f r.0)) (fault_at n k rule.ArgumentKind r.0) y r.2 in
      let both : (lacks_argument f i ≡ true) × (needs_argument (kind_in d f r.0) ≡ true) = and_parts (lacks_argument f i) (needs_argument (kind_in d f r.0)) w.0 in
      subst Breaks (sym w.1) (lacking n k i r.0 at both.0 (option_among (first_value i) r.0 r.1) both.1)

  abbrev results_part : ℕ → ℕ → Inst → List PointFault
  results_part n k i = flat_map (ring_faults ring n k) i.results

  abbrev mixed_part : ℕ → ℕ → Inst → List PointFault
  mixed_part n k i = mixed_faults (kind_in d f) n k i

  abbrev taken_part : ℕ → ℕ → Inst → List PointFault
  taken_part n k i = flat_map (taken_faults (kind_in d f) (borrows_of f) n k) (all_taken i)

  abbrev lacking_part : ℕ → ℕ → Inst → List PointFault
  lacking_part n k i = lacking_faults (kind_in d f) f n k i

  abbrev of_inst : ℕ → ℕ → Inst → List PointFault
  of_inst = inst_faults (kind_in d f) ring (borrows_of f) f

  abbrev of_arg : ℕ → BlockArg → List PointFault
  of_arg n a = arg_faults (kind_in d f) ring d (switch_to f n) n a

  abbrev of_args : ℕ → Block → List PointFault
  of_args = args_faults (kind_in d f) ring d f

  abbrev pub all_faults : List PointFault
  all_faults = faults_of (kind_in d f) ring (borrows_of f) d f

  inst_breaks : IsRingOf d f ring → (n k : ℕ) (i : Inst) (y : PointFault) → IsAt f n k i → Among y (of_inst n k i) → Breaks y
  inst_breaks is n k i y at h = first (among_either y (results_part n k i) (mixed_part n k i ++ (taken_part n k i ++ lacking_part n k i)) h)
    where
      third : Among y (taken_part n k i) ⊎ Among y (lacking_part n k i) → Breaks y
      third (inl a) = taken_breaks n k i y at a
      third (inr a) = lacking_breaks n k i y at a

      second : Among y (mixed_part n k i) ⊎ Among y (taken_part n k i ++ lacking_part n k i) → Breaks y
      second (inl a) = mixed_breaks n k i y at a
      second (inr a) = third (among_either y (taken_part n k i) (lacking_part n k i) a)

      first : Among y (results_part n k i) ⊎ Among y (mixed_part n k i ++ (taken_part n k i ++ lacking_part n k i)) → Breaks y
      first (inl a) = results_break is n k i y at a
      first (inr a) = second (among_either y (mixed_part n k i) (taken_part n k i ++ lacking_part n k i) a)

  above_zero : (n : ℕ) → nat_lt 0 n ≡ true → 0 < n
  above_zero n h = grind (arith, nat_tests)

  annotation_breaks : (n : ℕ) (b : Block) (a : BlockArg) (y : PointFault) → slice_get f.blocks n ≡ Some b → Among a b.args → Among y (annotation_faults (kind_in d f) d (switch_to f n) n a) → Breaks y
  annotation_breaks n b a y at in_block h =
      let well : Bool = is_annotated_well (kind_in d f) (switch_to f n) (is_trivial d a.ty) a.kind in
      let w : ((nat_lt 0 n && not (is_annotated_well (kind_in d f) (switch_to f n) (is_trivial d a.ty) a.kind)) ≡ true) × (y ≡ fault_at n 0 rule.ArgumentKind a.value) =
      where_among (nat_lt 0 n && not (is_annotated_well (kind_in d f) (switch_to f n) (is_trivial d a.ty) a.kind)) (fault_at n 0 rule.ArgumentKind a.value) y h in
      let both : (nat_lt 0 n ≡ true) × (not (is_annotated_well (kind_in d f) (switch_to f n) (is_trivial d a.ty) a.kind) ≡ true) =
      and_parts (nat_lt 0 n) (not (is_annotated_well (kind_in d f) (switch_to f n) (is_trivial d a.ty) a.kind)) w.0 in
      subst Breaks (sym w.1)
      (annotated n b a (above_zero n both.0) at (contained_among a b.args in_block) (not_true (is_annotated_well (kind_in d f) (switch_to f n) (is_trivial d a.ty) a.kind) both.1))

  arg_breaks : IsRingOf d f ring → (n : ℕ) (b : Block) (a : BlockArg) (y : PointFault) → slice_get f.blocks n ≡ Some b → Among a b.args → Among y (of_arg n a) → Breaks y
  arg_breaks is n b a y at in_block h = by (among_either y (ring_faults ring n 0 a.value) (annotation_faults (kind_in d f) d (switch_to f n) n a) h)
    where
      by : Among y (ring_faults ring n 0 a.value) ⊎ Among y (annotation_faults (kind_in d f) d (switch_to f n) n a) → Breaks y
      by (inl r) = ring_breaks is a.value n 0 y (argument n b a at (contained_among a b.args in_block) refl) r
      by (inr r) = annotation_breaks n b a y at in_block r

  pub faults_break : IsRingOf d f ring → (y : PointFault) → Among y all_faults → Breaks y
  faults_break is y h = by (found f of_args of_inst y h)
    where
      args : (n : ℕ) (b : Block) → slice_get f.blocks n ≡ Some b → (a : BlockArg) × Among a b.args × Among y (of_arg n a) → Breaks y
      args n b at r = arg_breaks is n b r.0 y at r.1 r.2

      by : IsFound f of_args of_inst y → Breaks y
      by (at_args n b at a) = args n b at (flat_among (of_arg n) y b.args a)
      by (at_inst n k i at a) = inst_breaks is n k i y at a

  -- what is broken is among the faults

  arg_in_faults : (n : ℕ) (b : Block) (a : BlockArg) (y : PointFault) → slice_get f.blocks n ≡ Some b → Among a b.args → Among y (of_arg n a) → Among y all_faults
  arg_in_faults n b a y at in_block h = args_in_faults f of_args of_inst y n b at (among_flat (of_arg n) y a b.args in_block h)

  in_faults : (n k : ℕ) (i : Inst) (y : PointFault) → IsAt f n k i → Among y (of_inst n k i) → Among y all_faults
  in_faults n k i y at a = inst_in_faults f of_args of_inst y n k i at a

  ring_in_faults : (v : ValueId) (n k : ℕ) → is_one ring v ≡ true → IsDefinedAt f v n k → Among (fault_at n k rule.CyclicForwarding v) all_faults
  ring_in_faults v n k that (result _ _ i at c) =
      in_faults n k i (fault_at n k rule.CyclicForwarding v) at
      (among_left (fault_at n k rule.CyclicForwarding v) (results_part n k i) (mixed_part n k i ++ (taken_part n k i ++ lacking_part n k i))
      (among_flat (ring_faults ring n k) (fault_at n k rule.CyclicForwarding v) v i.results (among_contained v i.results c)
      (among_where (is_one ring v) (fault_at n k rule.CyclicForwarding v) that)))
  ring_in_faults v n k that (argument _ b a at c e) =
      arg_in_faults n b a (fault_at n 0 rule.CyclicForwarding v) at (among_contained a b.args c)
      (among_left (fault_at n 0 rule.CyclicForwarding v) (ring_faults ring n 0 a.value) (annotation_faults (kind_in d f) d (switch_to f n) n a)
      (subst (λ w. Among (fault_at n 0 rule.CyclicForwarding v) (ring_faults ring n 0 w)) (sym e)
      (among_where (is_one ring v) (fault_at n 0 rule.CyclicForwarding v) that)))

  -- the value with a number below the count is defined somewhere

  counted_at : (vs : List ValueId) (n : ℕ) (v : ValueId) → AreCountedFrom n vs → n ≤ v.0 → v.0 < n + length vs → Among v vs
  counted_at [] n v c le lt = absurd (omega arith)
  counted_at (w ∷ vs) n v c le lt = at (λ m. counted_at vs (n + 1) v c.1 (omega arith) (omega arith)) (cases_eq v.0 n)
    where
      at : (v.0 ≢ n → Among v vs) → (v.0 ≡ n) ⊎ (v.0 ≢ n) → (v ≡ w) ⊎ Among v vs
      at rest (inl e) = inl (let same : v.0 ≡ w.0 = e ∙ sym c.0 in ap (λ k. let x : ValueId = record { 0 = k } in x) same)
      at rest (inr m) = inr (rest m)

  abbrev Defined : ValueId → Type 0
  Defined v = (n : ℕ) × (k : ℕ) × IsDefinedAt f v n k

  defined_in_block : (v : ValueId) (n : ℕ) (b : Block) → slice_get f.blocks n ≡ Some b → Among v (defined_in b) → Defined v
  defined_in_block v n b at h = by (among_either v (map numbering.value_of b.args) (flat_map results_of (insts_of b)) h)
    where
      args : (a : BlockArg) × Among a b.args × (v ≡ numbering.value_of a) → Defined v
      args r = (n, 0, argument n b r.0 at (contained_among r.0 b.args r.1) (sym r.2))

      at_place : (i : Inst) → Among v i.results → (k : ℕ) × (slice_get (insts_of b) k ≡ Some i) → Defined v
      at_place i among p = (n, p.0, result n p.0 i (record { within = b; is_block = at; is_inst = p.1 }) (contained_among v i.results among))

      insts : (i : Inst) × Among i (insts_of b) × Among v (results_of i) → Defined v
      insts r = at_place r.0 r.2 (place_among r.0 (insts_of b) r.1)

      by : Among v (map numbering.value_of b.args) ⊎ Among v (flat_map results_of (insts_of b)) → Defined v
      by (inl a) = args (map_among numbering.value_of v b.args a)
      by (inr a) = insts (flat_among results_of v (insts_of b) a)

  defined_somewhere : (v : ValueId) → AreCountedFrom 0 (values_of f.blocks) → v.0 < length (values_of f.blocks) → Defined v
  defined_somewhere v counted lt = in_block (flat_among defined_in v f.blocks (counted_at (values_of f.blocks) 0 v counted (omega arith) (omega arith)))
    where
      at_place : (b : Block) → Among v (defined_in b) → (n : ℕ) × (slice_get f.blocks n ≡ Some b) → Defined v
      at_place b among p = defined_in_block v p.0 b p.1 among

      in_block : (b : Block) × Among b f.blocks × Among v (defined_in b) → Defined v
      in_block r = at_place r.0 r.2 (place_among r.0 f.blocks r.1)

  abbrev Answered : Rule → ValueId → ℕ → ℕ → Type 0
  Answered r v n k = (y : PointFault) × Among y all_faults × NotAfter (key_of y) (key_at r v n k)

  itself : (r : Rule) (v : ValueId) (n k : ℕ) → Among (fault_at n k r v) all_faults → Answered r v n k
  itself r v n k a = (fault_at n k r v, a, not_after_refl (key_at r v n k))

  ring_answered : AreCountedFrom 0 (values_of f.blocks) → (v : ValueId) (n k : ℕ) → IsOnRing d f v → IsDefinedAt f v n k → (o : Option ValueId) →
      ring ≡ o → IsRingOf d f o → Answered rule.CyclicForwarding v n k
  ring_answered counted v n k on at None e is = absurd (is v on)
  ring_answered counted v n k on at (Some r) e is = by (compared v.0 r.0)
    where
      that : (w : ValueId) → r.0 ≡ w.0 → is_one ring w ≡ true
      that w same = subst (λ o. is_one o w ≡ true) (sym e) (that_is r w same)

      earlier : r.0 < v.0 → Defined r → Answered rule.CyclicForwarding v n k
      earlier lt p = (fault_at p.0 p.1 rule.CyclicForwarding r, ring_in_faults r p.0 p.1 (that r refl) p.2, inl lt)

      by : ((v.0 < r.0) ⊎ (r.0 < v.0)) ⊎ (v.0 ≡ r.0) → Answered rule.CyclicForwarding v n k
      by (inl (inl lt)) = absurd (is.first v lt on)
      by (inl (inr lt)) = earlier lt (defined_somewhere r counted is.inside)
      by (inr same) = itself rule.CyclicForwarding v n k (ring_in_faults v n k (that v (sym same)) at)

  annotation_answered : (n : ℕ) (b : Block) (a : BlockArg) → 0 < n → slice_get f.blocks n ≡ Some b → Contains b.args a →
      is_annotated_well (kind_in d f) (switch_to f n) (is_trivial d a.ty) a.kind ≡ false → Among (fault_at n 0 rule.ArgumentKind a.value) all_faults
  annotation_answered n b a lt at c e =
      let above : nat_lt 0 n ≡ true = grind (arith, nat_tests) in
      arg_in_faults n b a (fault_at n 0 rule.ArgumentKind a.value) at (among_contained a b.args c)
      (among_right (fault_at n 0 rule.ArgumentKind a.value) (ring_faults ring n 0 a.value) (annotation_faults (kind_in d f) d (switch_to f n) n a)
      (among_where (nat_lt 0 n && not (is_annotated_well (kind_in d f) (switch_to f n) (is_trivial d a.ty) a.kind)) (fault_at n 0 rule.ArgumentKind a.value)
      (and_from (nat_lt 0 n) (not (is_annotated_well (kind_in d f) (switch_to f n) (is_trivial d a.ty) a.kind)) above
      (not_from_false (is_annotated_well (kind_in d f) (switch_to f n) (is_trivial d a.ty) a.kind) e))))

  mixed_answered : (v : ValueId) (n k : ℕ) (i : Inst) → IsAt f n k i → mixed_operand (kind_in d f) i ≡ Some v → Among (fault_at n k rule.MixedForwarding v) all_faults
  mixed_answered v n k i at e =
      in_faults n k i (fault_at n k rule.MixedForwarding v) at
      (among_right (fault_at n k rule.MixedForwarding v) (results_part n k i) (mixed_part n k i ++ (taken_part n k i ++ lacking_part n k i))
      (among_left (fault_at n k rule.MixedForwarding v) (mixed_part n k i) (taken_part n k i ++ lacking_part n k i)
      (among_map (fault_at n k rule.MixedForwarding) v (option_to_list (mixed_operand (kind_in d f) i)) (among_option (mixed_operand (kind_in d f) i) v e))))

  mismatch_answered : (n k : ℕ) (i : Inst) (t : Taken) → IsAt f n k i → Contains (all_taken i) t → is_mismatch (is_borrow f t.value) t.role (kind_in d f t.value) ≡ true →
      Among (fault_at n k rule.KindMismatch t.value) all_faults
  mismatch_answered n k i t at c e =
      in_faults n k i (fault_at n k rule.KindMismatch t.value) at
      (among_right (fault_at n k rule.KindMismatch t.value) (results_part n k i) (mixed_part n k i ++ (taken_part n k i ++ lacking_part n k i))
      (among_right (fault_at n k rule.KindMismatch t.value) (mixed_part n k i) (taken_part n k i ++ lacking_part n k i)
      (among_left (fault_at n k rule.KindMismatch t.value) (taken_part n k i) (lacking_part n k i)
      (among_flat (taken_faults (kind_in d f) (borrows_of f) n k) (fault_at n k rule.KindMismatch t.value) t (all_taken i) (among_contained t (all_taken i) c)
      (among_where (is_mismatch (is_borrow f t.value) t.role (kind_in d f t.value)) (fault_at n k rule.KindMismatch t.value) e)))))

  lacking_answered : (n k : ℕ) (i : Inst) (v : ValueId) → IsAt f n k i → lacks_argument f i ≡ true → first_value i ≡ Some v →
      needs_argument (kind_in d f v) ≡ true → Among (fault_at n k rule.ArgumentKind v) all_faults
  lacking_answered n k i v at lacks e needs =
      in_faults n k i (fault_at n k rule.ArgumentKind v) at
      (among_right (fault_at n k rule.ArgumentKind v) (results_part n k i) (mixed_part n k i ++ (taken_part n k i ++ lacking_part n k i))
      (among_right (fault_at n k rule.ArgumentKind v) (mixed_part n k i) (taken_part n k i ++ lacking_part n k i)
      (among_right (fault_at n k rule.ArgumentKind v) (taken_part n k i) (lacking_part n k i)
      (among_flat (needy_faults (kind_in d f) (lacks_argument f i) n k) (fault_at n k rule.ArgumentKind v) v (option_to_list (first_value i)) (among_option (first_value i) v e)
      (among_where (lacks_argument f i && needs_argument (kind_in d f v)) (fault_at n k rule.ArgumentKind v) (and_from (lacks_argument f i) (needs_argument (kind_in d f v)) lacks needs))))))

  -- whatever is broken, a fault is among those of the function that doesn't come behind it
  pub answered : AreCountedFrom 0 (values_of f.blocks) → IsRingOf d f ring → (r : Rule) (v : ValueId) (n k : ℕ) → IsBroken d f r v n k → Answered r v n k
  answered counted is r v n k (on_ring _ _ _ on at) = ring_answered counted v n k on at ring refl is
  answered counted is r v n k (mixed _ _ _ i at e) = itself rule.MixedForwarding v n k (mixed_answered v n k i at e)
  answered counted is r v n k (mismatch _ _ i t at c e) = itself rule.KindMismatch t.value n k (mismatch_answered n k i t at c e)
  answered counted is r v n k (annotated _ b a lt at c e) = itself rule.ArgumentKind a.value n 0 (annotation_answered n b a lt at c e)
  answered counted is r v n k (lacking _ _ i _ at lacks e needs) = itself rule.ArgumentKind v n k (lacking_answered n k i v at lacks e needs)
