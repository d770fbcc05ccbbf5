-- The marks of the items of a function in which a copy is lent: just those of the function's items.
use Rattle.std.proofs.Common.{◌≡◌, ℕ, zero, suc, List, [], ◌∷◌, ◌++◌, length, refl, sym, ap, ap₂, ◌∙◌, subst, Bool, Option, Some, None, true, false, eq-eqb}
use Rattle.std.specs.Prelude.{◌||◌, ◌==◌, ◌&&◌, cond, option_map, slice_get}
use Rattle.std.specs.List.{flat_map, list_any}
use Rattle.std.proofs.lemmas.Bool.{eqb-true}
use Rattle.std.proofs.lemmas.Grind.{flat_map-append}
use Rattle.instruction_table.specs.Forms.{is_terminator, number_of, roles_of}
use Rattle.instruction_table.specs.declared.entries.Role.{Role}
use Rattle.instruction_table.specs.declared.entries.Role.TheVariants as role
use Rattle.instruction_table.specs.declared.op.Op.{Op}
use Rattle.instruction_table.specs.declared.op.Op.TheVariants as op
use Rattle.sil_cfg_items.specs.Items.{item_defined, item_taken, taken_along_in, taken_in}
use Rattle.sil_cfg_items.specs.Parts.{edge_in, inst_at, inst_in, terminator_in, terminator_of}
use Rattle.sil_cfg_items.specs.Roles.{by_row, conventions_in, roles_for, taken_along, taken_as, taken_by, taken_each}
use Rattle.sil_cfg_items.specs.declared.taken.Taken.{Taken}
use Rattle.numbered_form.specs.Lists.{Each}
use Rattle.numbered_form.specs.inner.Parts.{has_operands, is_typed}
use Rattle.ownership_kinds_chains.specs.OwnershipChains.Facts.{facts_with}
use Rattle.ownership_kinds_chains.specs.declared.ownership_chains.facts.Facts.{Facts}
use Rattle.copy_pairing_model.specs.ownership_kinds_origins.Facts.{facts_in}
use Rattle.sil_verifier_trails.specs.ownership_kinds.Statics.{all_taken}
use Rattle.ownership_kinds_chains.specs.OwnershipMarks.Marks.{begin_of, begun, begun_with, ended, ended_by, ended_with, marks_of, use_of, used, used_by, used_with}
use Rattle.numbered_form.specs.PointChecks.Points.{IsAt}
use Rattle.sil_ast.specs.declared.function.Block.{Block}
use Rattle.sil_ast.specs.declared.function.Function.{Function}
use Rattle.sil_ast.specs.declared.inst.Edge as edge
use Rattle.sil_ast.specs.declared.inst.Inst as inst
use Rattle.sil_ast.specs.declared.operands.Operand.{Operand}
use Rattle.sil_ast.specs.declared.place.PointId.{PointId}
use Rattle.sil_ast.specs.declared.place.ValueId.{ValueId}
use Rattle.sil_cfg.specs.declared.item.Item.{Item}
use Rattle.sil_cfg.specs.declared.item.Item.TheVariants.{Entry, Inst, Edge, Exit}
use Rattle.sil_types_declarations.specs.TypeDefinitions.Declarations.{Declarations}
use Rattle.sil_types_declarations.specs.declared.type_definitions.kind.Kind.TheVariants as kind
use Rattle.copy_pairing_model.specs.Copies.{is_op}
use Rattle.copy_pairing_model.specs.Rewritten.{lent, lent_inst, takes, with_op}
use Rattle.copy_pairing_acceptance.proofs.LentFunctions.Facts.{copy_facts, other_facts}
use Rattle.copy_pairing_acceptance.proofs.LentFunctions.Insts.{Becomes, becomes, borrows, ends, op_is, stays}
use Rattle.copy_pairing_acceptance.proofs.LentFunctions.Lists.{each_append, each_front, each_behind, each_got, each_unflat, flat_map_all, flat_map_each}
use Rattle.copy_pairing_acceptance.proofs.LentFunctions.Parts.{defined_lent, inst_at_lent, terminator_lent}
use Rattle.copy_pairing_acceptance.proofs.LentFunctions.Ready.{Ready}
use Rattle.copy_pairing_acceptance.proofs.LentFunctions.Roles.{IsGentle, gentle_at, is_mild}
use Rattle.copy_pairing_acceptance.proofs.LentFunctions.ValueRows.{same_value}

-- ---- roles that treat an Owned value and a scope alike

mild_ended : (x : Role) (u : ValueId) → is_mild x ≡ true → ended_by kind.Guaranteed x u ≡ ended_by kind.Owned x u
mild_ended role.Consumed u m = absurd (let wrong : false ≡ true = m in cc)
mild_ended role.Used u m = refl
mild_ended role.Lent u m = absurd (let wrong : false ≡ true = m in cc)
mild_ended role.Forwarded u m = absurd (let wrong : false ≡ true = m in cc)
mild_ended role.AddressRole u m = refl
mild_ended role.AnyRole u m = refl
mild_ended role.ScopeRole u m = absurd (let wrong : false ≡ true = m in cc)
mild_ended role.ByParameter u m = refl
mild_ended role.Counted u m = refl

mild_used : (x : Role) (u c : ValueId) → u ≡ c → is_mild x ≡ true → used_by kind.Guaranteed x u (c ∷ []) ≡ used_by kind.Owned x u (c ∷ [])
mild_used role.Consumed u c e m = absurd (let wrong : false ≡ true = m in cc)
mild_used role.Used u c e m = ap (λ w. use_of w ∷ []) (sym e)
mild_used role.Lent u c e m = absurd (let wrong : false ≡ true = m in cc)
mild_used role.Forwarded u c e m = absurd (let wrong : false ≡ true = m in cc)
mild_used role.AddressRole u c e m = ap (λ w. use_of w ∷ []) (sym e)
mild_used role.AnyRole u c e m = ap (λ w. use_of w ∷ []) (sym e)
mild_used role.ScopeRole u c e m = absurd (let wrong : false ≡ true = m in cc)
mild_used role.ByParameter u c e m = ap (λ w. use_of w ∷ []) (sym e)
mild_used role.Counted u c e m = ap (λ w. use_of w ∷ []) (sym e)

-- ---- the operand of a destroy

pub record IsOne (os : List Operand) : Type 0 where
  pub operand : Operand
  pub alone : os ≡ operand ∷ []

pub one_operand : (os : List Operand) → has_operands op.DestroyValue os ≡ true → IsOne os
one_operand [] h = absurd (let wrong : false ≡ true = h in cc)
one_operand (o ∷ []) h = record { operand = o; alone = refl }
one_operand (o ∷ x ∷ os) h = at (is_typed o) h
  where
    at : (b : Bool) → ((b && false) || false) ≡ true → IsOne (o ∷ x ∷ os)
    at true e = absurd (let wrong : false ≡ true = e in cc)
    at false e = absurd (let wrong : false ≡ true = e in cc)

pub first : (a : Bool) → (a || false) ≡ true → a ≡ true
first true e = refl
first false e = e

module _ (d : Declarations) (f : Function) (p : PointId) (c v : ValueId) (r : Ready d f p c v) where
  abbrev facts : ValueId → Option Facts
  facts = facts_in d f

  abbrev lent_facts : ValueId → Option Facts
  lent_facts = facts_in d (lent c f)

  -- ---- marks of one operand, and of one value

  pub begun_lent : (w : ValueId) → begun lent_facts w ≡ begun facts w
  begun_lent w = by (w.0 == c.0) refl
    where
      of_copy : begun lent_facts c ≡ begun facts c
      of_copy =
          ap (λ o. begun_with o c) (copy_facts d f p c v r)
          ∙ ap (λ b. cond (b || false) (begin_of c ∷ []) []) (eq-eqb c.0 c.0 refl)
          ∙ sym (ap (λ o. begun_with o c) r.owned)

      by : (b : Bool) → (w.0 == c.0) ≡ b → begun lent_facts w ≡ begun facts w
      by false e = ap (λ o. begun_with o w) (other_facts d f p c v r w e)
      by true e = subst (λ u. begun lent_facts u ≡ begun facts u) (sym (same_value w c (eqb-true w.0 c.0 e))) of_copy

  ended_gentle : (t : Taken) → IsGentle d f p c v r t → ended lent_facts t ≡ ended facts t
  ended_gentle t g = by (t.value.0 == c.0) refl
    where
      by : (b : Bool) → (t.value.0 == c.0) ≡ b → ended lent_facts t ≡ ended facts t
      by false e = ap (λ o. ended_with o t) (other_facts d f p c v r t.value e)
      by true e =
          let is : t.value ≡ c = same_value t.value c (eqb-true t.value.0 c.0 e) in
          ap (λ o. ended_with o t) (ap lent_facts is ∙ copy_facts d f p c v r)
          ∙ mild_ended t.role t.value (g (eqb-true t.value.0 c.0 e))
          ∙ sym (ap (λ o. ended_with o t) (ap facts is ∙ r.owned))

  used_gentle : (t : Taken) → IsGentle d f p c v r t → used lent_facts t ≡ used facts t
  used_gentle t g = by (t.value.0 == c.0) refl
    where
      by : (b : Bool) → (t.value.0 == c.0) ≡ b → used lent_facts t ≡ used facts t
      by false e = ap (λ o. used_with o t) (other_facts d f p c v r t.value e)
      by true e =
          let is : t.value ≡ c = same_value t.value c (eqb-true t.value.0 c.0 e) in
          ap (λ o. used_with o t) (ap lent_facts is ∙ copy_facts d f p c v r)
          ∙ mild_used t.role t.value c is (g (eqb-true t.value.0 c.0 e))
          ∙ sym (ap (λ o. used_with o t) (ap facts is ∙ r.owned))

  -- ---- of lists of operands

  record SameMarks (new old : List Taken) : Type 0 where
    ends : flat_map (ended lent_facts) new ≡ flat_map (ended facts) old
    uses : flat_map (used lent_facts) new ≡ flat_map (used facts) old

  gentle_same : (ts : List Taken) → Each (IsGentle d f p c v r) ts → SameMarks ts ts
  gentle_same ts h = record { ends = flat_map_each (ended lent_facts) (ended facts) ts (ends_each ts h); uses = flat_map_each (used lent_facts) (used facts) ts (uses_each ts h) }
    where
      ends_each : (ts : List Taken) → Each (IsGentle d f p c v r) ts → Each (λ t. ended lent_facts t ≡ ended facts t) ts
      ends_each [] h = tt
      ends_each (t ∷ ts) h = (ended_gentle t h.0, ends_each ts h.1)

      uses_each : (ts : List Taken) → Each (IsGentle d f p c v r) ts → Each (λ t. used lent_facts t ≡ used facts t) ts
      uses_each [] h = tt
      uses_each (t ∷ ts) h = (used_gentle t h.0, uses_each ts h.1)

  behind_nothing : (new old : List Taken) → SameMarks new old → SameMarks (new ++ []) (old ++ [])
  behind_nothing new old h = record {
    ends = flat_map-append (ended lent_facts) new [] ∙ ap (λ ms. ms ++ []) h.ends ∙ sym (flat_map-append (ended facts) old []);
    uses = flat_map-append (used lent_facts) new [] ∙ ap (λ ms. ms ++ []) h.uses ∙ sym (flat_map-append (used facts) old []);
  }

  -- ---- of an instruction

  pub not_destroy : (i : inst.Inst) (o : Op) → i.op ≡ o → (number_of o == number_of op.DestroyValue) ≡ false → (is_op op.DestroyValue i && takes c i) ≡ false
  not_destroy i o e h = ap (λ b. b && takes c i) (ap (λ x. number_of x == number_of op.DestroyValue) e ∙ h)

  destroy_same : (i : inst.Inst) (o : Operand) → i.op ≡ op.DestroyValue → i.operands ≡ o ∷ [] → o.value ≡ c → SameMarks (taken_by (with_op op.EndBorrow i)) (taken_by i)
  destroy_same i o e alone is =
      let old : taken_by i ≡ taken_as o (by_row role.Consumed) ∷ [] =
      ap₂ (λ os x. taken_each os (roles_for (roles_of x) (conventions_in i) (length os))) alone e in
      let new : taken_by (with_op op.EndBorrow i) ≡ taken_as o (by_row role.ScopeRole) ∷ [] =
      ap (λ os. taken_each os (roles_for (roles_of op.EndBorrow) (conventions_in i) (length os))) alone in
      let was : facts o.value ≡ Some (facts_with kind.Owned (c ∷ [])) = ap facts is ∙ r.owned in
      let now : lent_facts o.value ≡ Some (facts_with kind.Guaranteed (c ∷ [])) = ap lent_facts is ∙ copy_facts d f p c v r in
      record {
        ends = ap (flat_map (ended lent_facts)) new ∙ ap (λ x. ended_with x (taken_as o (by_row role.ScopeRole)) ++ []) now
            ∙ sym (ap (flat_map (ended facts)) old ∙ ap (λ x. ended_with x (taken_as o (by_row role.Consumed)) ++ []) was);
        uses = ap (flat_map (used lent_facts)) new ∙ ap (λ x. used_with x (taken_as o (by_row role.ScopeRole)) ++ []) now
            ∙ sym (ap (flat_map (used facts)) old ∙ ap (λ x. used_with x (taken_as o (by_row role.Consumed)) ++ []) was);
      }

  by_becoming : (n k : ℕ) (i j : inst.Inst) → IsAt f n k i → Becomes c i j → SameMarks (taken_by j) (taken_by i)
  by_becoming n k i _ at (borrows e m) =
      let same : taken_by (with_op op.BeginBorrow i) ≡ taken_by i =
      ap (λ x. taken_each i.operands (roles_for (roles_of x) (conventions_in i) (length i.operands))) (sym e) in
      subst (λ ts. SameMarks ts (taken_by i)) (sym same)
      (gentle_same (taken_by i)
      (each_front (IsGentle d f p c v r) (taken_by i) (flat_map taken_along i.edges) (gentle_at d f p c v r n k i at (not_destroy i op.CopyValue e refl))))
  by_becoming n k i _ at (ends e m) =
      let one = one_operand i.operands (subst (λ x. has_operands x i.operands ≡ true) e (r.formed.parts n k i at).operands) in
      let taken : (one.operand.value.0 == c.0) ≡ true =
      first (one.operand.value.0 == c.0) (sym (ap (list_any (λ (x : Operand). x.value.0 == c.0)) one.alone) ∙ m) in
      destroy_same i one.operand e one.alone (same_value one.operand.value c (eqb-true one.operand.value.0 c.0 taken))
  by_becoming n k i _ at (stays e h) =
      gentle_same (taken_by i) (each_front (IsGentle d f p c v r) (taken_by i) (flat_map taken_along i.edges) (gentle_at d f p c v r n k i at h))

  -- ---- of an item

  abbrev IsSame : Item → Type 0
  IsSame item = SameMarks (item_taken (lent c f) item) (item_taken f item)

  in_front : (xs : List inst.Inst) (t i : inst.Inst) (k : ℕ) → slice_get xs k ≡ Some i → slice_get (xs ++ t ∷ []) k ≡ Some i
  in_front [] t i k e = absurd (let wrong : None ≡ Some i = e in cc)
  in_front (x ∷ xs) t i zero e = e
  in_front (x ∷ xs) t i (suc k) e = in_front xs t i k e

  pub stands : (q : PointId) (i : inst.Inst) → inst_at f q ≡ Some i → IsAt f q.block.0 q.index i
  stands q i e = at (slice_get f.blocks q.block.0) refl e
    where
      at : (o : Option Block) → slice_get f.blocks q.block.0 ≡ o → inst_in o q.index ≡ Some i → IsAt f q.block.0 q.index i
      at None is h = absurd (let wrong : None ≡ Some i = h in cc)
      at (Some b) is h = record { within = b; is_block = is; is_inst = in_front b.insts b.terminator i q.index h }

  pub ends_at : (n : ℕ) (t : inst.Inst) → terminator_of f n ≡ Some t → (k : ℕ) × IsAt f n k t
  ends_at n t e = at (slice_get f.blocks n) refl e
    where
      last : (is : List inst.Inst) (x : inst.Inst) → slice_get (is ++ x ∷ []) (length is) ≡ Some x
      last [] x = refl
      last (i ∷ is) x = last is x

      at : (o : Option Block) → slice_get f.blocks n ≡ o → terminator_in o ≡ Some t → (k : ℕ) × IsAt f n k t
      at None is h = absurd (let wrong : None ≡ Some t = h in cc)
      at (Some b) is h = (length b.insts, record { within = b; is_block = is; is_inst = last b.insts b.terminator ∙ h })

  pub end_calm : (t : inst.Inst) → is_terminator t.op ≡ true → (is_op op.DestroyValue t && takes c t) ≡ false
  end_calm t h = at (is_op op.DestroyValue t) refl
    where
      at : (b : Bool) → is_op op.DestroyValue t ≡ b → (is_op op.DestroyValue t && takes c t) ≡ false
      at false e = ap (λ b. b && takes c t) e
      at true e = absurd (let wrong : false ≡ true = sym (ap is_terminator (op_is op.DestroyValue t e)) ∙ h in cc)

  end_gentle : (n : ℕ) (t : inst.Inst) → terminator_of f n ≡ Some t → Each (IsGentle d f p c v r) (all_taken t)
  end_gentle n t e = let at = ends_at n t e in gentle_at d f p c v r n at.0 t at.1 (end_calm t (r.formed.ends n t e).ends)

  end_taken : (n : ℕ) (o : Option inst.Inst) → terminator_of f n ≡ o → Each (IsGentle d f p c v r) (taken_in o)
  end_taken n None e = tt
  end_taken n (Some t) e = each_front (IsGentle d f p c v r) (taken_by t) (flat_map taken_along t.edges) (end_gentle n t e)

  edge_taken : (n k : ℕ) (o : Option inst.Inst) → terminator_of f n ≡ o → Each (IsGentle d f p c v r) (taken_along_in (edge_in o k))
  edge_taken n k None e = tt
  edge_taken n k (Some t) e = at (slice_get t.edges k) refl
    where
      at : (o : Option edge.Edge) → slice_get t.edges k ≡ o → Each (IsGentle d f p c v r) (taken_along_in o)
      at None is = tt
      at (Some x) is =
          each_got (λ y. Each (IsGentle d f p c v r) (taken_along y)) t.edges k x
          (each_unflat (IsGentle d f p c v r) taken_along t.edges
          (each_behind (IsGentle d f p c v r) (taken_by t) (flat_map taken_along t.edges) (end_gentle n t e))) is

  same_item : (item : Item) → IsSame item
  same_item Entry = record { ends = refl; uses = refl }
  same_item (Inst q) =
      behind_nothing (taken_in (inst_at (lent c f) q)) (taken_in (inst_at f q))
      (subst (λ o. SameMarks (taken_in o) (taken_in (inst_at f q))) (sym (inst_at_lent c f q)) (at (inst_at f q) refl))
    where
      at : (o : Option inst.Inst) → inst_at f q ≡ o → SameMarks (taken_in (option_map (lent_inst c) o)) (taken_in o)
      at None e = record { ends = refl; uses = refl }
      at (Some i) e = by_becoming q.block.0 q.index i (lent_inst c i) (stands q i e) (becomes c i)
  same_item (Edge e) =
      subst (λ o. SameMarks (taken_in o ++ taken_along_in (edge_in o e.index)) (item_taken f (Edge e))) (sym (terminator_lent c f e.block.0))
      (gentle_same (item_taken f (Edge e))
      (each_append (IsGentle d f p c v r) (taken_in (terminator_of f e.block.0)) (taken_along_in (edge_in (terminator_of f e.block.0) e.index))
      (end_taken e.block.0 (terminator_of f e.block.0) refl) (edge_taken e.block.0 e.index (terminator_of f e.block.0) refl)))
  same_item (Exit q) =
      subst (λ o. SameMarks (taken_in o ++ []) (item_taken f (Exit q))) (sym (terminator_lent c f q.block.0))
      (behind_nothing (taken_in (terminator_of f q.block.0)) (taken_in (terminator_of f q.block.0))
      (gentle_same (taken_in (terminator_of f q.block.0)) (end_taken q.block.0 (terminator_of f q.block.0) refl)))

  -- an item has the marks that it had
  pub marks_lent : (item : Item) → marks_of lent_facts (lent c f) item ≡ marks_of facts f item
  marks_lent item =
      ap₂ (λ x y. x ++ y) (ap₂ (λ x y. x ++ y) (same_item item).ends (same_item item).uses)
      (ap (flat_map (begun lent_facts)) (defined_lent c f item) ∙ flat_map_all (begun lent_facts) (begun facts) begun_lent (item_defined f item))
