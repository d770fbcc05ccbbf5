-- What is done to the copy: but for its destroys, nothing that ends it, and nothing that only a scope or a Guaranteed value may be taken for.
use Rattle.std.proofs.Common.{◌≡◌, ℕ, zero, suc, ◌<◌, List, [], ◌∷◌, ◌++◌, length, refl, sym, ap, ◌∙◌, subst, Bool, Option, Some, true, false, ◌⊎◌, inl, inr}
use Rattle.std.specs.Prelude.{◌||◌, ◌==◌, ◌&&◌, Contains, cond, option_map, slice_get}
use Rattle.std.specs.List.{flat_map, list_any}
use Rattle.std.proofs.lemmas.Bool.{eq-eqb}
use Rattle.std.proofs.lemmas.Option.{slice_get_within}
use Rattle.instruction_table.specs.Forms.{ending_of, ends, is_terminator, roles_of}
use Rattle.instruction_table.specs.declared.entries.Ending.{Ending}
use Rattle.instruction_table.specs.declared.entries.Ending.TheVariants as ending
use Rattle.instruction_table.specs.declared.entries.Role.{Role}
use Rattle.instruction_table.specs.declared.entries.Role.TheVariants as role
use Rattle.instruction_table.specs.declared.op.Op.TheVariants as op
use Rattle.sil_cfg_items.specs.Items.{item_defined, item_taken, taken_along_in, taken_in}
use Rattle.sil_cfg_items.specs.Parts.{edge_in, inst_at, inst_in, item_inst, terminator_in, terminator_of}
use Rattle.sil_cfg_items.specs.Roles.{conventions_in, roles_for, taken_along, taken_by, taken_each}
use Rattle.sil_cfg_items.specs.declared.taken.Taken.{Taken}
use Rattle.sil_cfg_items.specs.declared.taken.Treatment.{Treatment}
use Rattle.numbered_form.specs.Lists.{Each}
use Rattle.numbered_form.specs.inner.Parts.{are_edges_by}
use Rattle.ownership_kinds_chains.specs.OwnershipChains.Facts.{facts_with}
use Rattle.ownership_kinds_chains.specs.declared.ownership_chains.facts.Facts.{Facts}
use Rattle.copy_pairing_model.specs.ownership_kinds_origins.Facts.{facts_in, kind_in, kind_of_facts}
use Rattle.sil_verifier_trails.specs.ownership_kinds.Statics.{all_taken, is_mismatch, mismatch}
use Rattle.ownership_kinds_chains.specs.OwnershipMarks.Marks.{begun, ended, ended_with, ends_owned, marks_of, used}
use Rattle.ownership_kinds_chains.specs.declared.ownership_marks.mark.Mark.{Mark}
use Rattle.ownership_kinds_chains.specs.declared.ownership_marks.mark.MarkSort.TheVariants.{End}
use Rattle.numbered_form.specs.PointChecks.Points.{IsAt}
use Rattle.sil_ast.specs.declared.function.Block.{Block}
use Rattle.sil_ast.specs.declared.function.Function.{Function}
use Rattle.sil_ast.specs.declared.inst.Edge as edge
use Rattle.sil_ast.specs.declared.inst.Inst as inst
use Rattle.sil_ast.specs.declared.operands.Operand.{Operand}
use Rattle.sil_ast.specs.declared.place.PointId.{PointId}
use Rattle.sil_ast.specs.declared.place.ValueId.{ValueId}
use Rattle.sil_cfg.proofs.Blocks.{item_of_block}
use Rattle.sil_cfg.specs.Flow.{edge_id}
use Rattle.sil_cfg.specs.Items.{IsItem, leaves_function, point_at}
use Rattle.sil_cfg.specs.declared.item.Item.{Item}
use Rattle.sil_cfg.specs.declared.item.Item.TheVariants.{Inst, Edge, Exit}
use Rattle.sil_rules.specs.declared.rule.Rule.TheVariants as rule
use Rattle.sil_types_declarations.specs.TypeDefinitions.Declarations.{Declarations}
use Rattle.sil_types_declarations.specs.declared.type_definitions.kind.Kind.TheVariants as kind
use Rattle.numbered_form.specs.ValueTables.Borrows.{borrows, is_borrow}
use Rattle.copy_pairing_model.specs.Copies.{is_op}
use Rattle.copy_pairing_model.specs.Removable.{is_destroy, is_mark}
use Rattle.copy_pairing_model.specs.Rewritten.{takes}
use Rattle.copy_pairing_acceptance.proofs.LentFunctions.Insts.{op_is}
use Rattle.copy_pairing_acceptance.proofs.LentFunctions.Lists.{any_parts, each_append, each_behind, each_both, each_contained, each_flat, each_front, each_place}
use Rattle.copy_pairing_acceptance.proofs.LentFunctions.Ready.{Ready}
use Rattle.copy_pairing_acceptance.proofs.LentFunctions.ValueRows.{no_borrow, same_value}

-- the role neither ends a value nor asks for a scope or a Guaranteed value
abbrev pub is_mild : Role → Bool
is_mild role.Consumed = false
is_mild role.Used = true
is_mild role.Lent = false
is_mild role.Forwarded = false
is_mild role.AddressRole = true
is_mild role.AnyRole = true
is_mild role.ScopeRole = false
is_mild role.ByParameter = true
is_mild role.Counted = true

mild_by : (x : Role) → ends_owned x ≡ false → is_mismatch false x (Some kind.Owned) ≡ false → is_mild x ≡ true
mild_by role.Consumed e m = absurd (let wrong : true ≡ false = e in cc)
mild_by role.Used e m = refl
mild_by role.Lent e m = absurd (let wrong : true ≡ false = m in cc)
mild_by role.Forwarded e m = absurd (let wrong : true ≡ false = e in cc)
mild_by role.AddressRole e m = refl
mild_by role.AnyRole e m = refl
mild_by role.ScopeRole e m = absurd (let wrong : true ≡ false = m in cc)
mild_by role.ByParameter e m = refl
mild_by role.Counted e m = refl

-- ---- edges by the way in which an instruction ends

no_edges : (x : Ending) (es : List edge.Edge) → ends x ≡ false → are_edges_by x es ≡ true → es ≡ []
no_edges ending.Inside [] e h = refl
no_edges ending.Inside (y ∷ es) e h = absurd (let wrong : false ≡ true = h in cc)
no_edges ending.OneBranch es e h = absurd (let wrong : true ≡ false = e in cc)
no_edges ending.TwoBranches es e h = absurd (let wrong : true ≡ false = e in cc)
no_edges ending.Cases es e h = absurd (let wrong : true ≡ false = e in cc)
no_edges ending.Return es e h = absurd (let wrong : true ≡ false = e in cc)
no_edges ending.Unreachable es e h = absurd (let wrong : true ≡ false = e in cc)

abbrev HasWay : Ending → List edge.Edge → Type 0
HasWay x es = (leaves_function x ≡ true) ⊎ ((y : edge.Edge) × (slice_get es zero ≡ Some y))

has_way : (x : Ending) (es : List edge.Edge) → ends x ≡ true → are_edges_by x es ≡ true → HasWay x es
has_way ending.Inside es e h = absurd (let wrong : false ≡ true = e in cc)
has_way ending.OneBranch [] e h = absurd (let wrong : false ≡ true = h in cc)
has_way ending.OneBranch (y ∷ es) e h = inr (y, refl)
has_way ending.TwoBranches [] e h = absurd (let wrong : false ≡ true = h in cc)
has_way ending.TwoBranches (y ∷ es) e h = inr (y, refl)
has_way ending.Cases [] e h = absurd (let wrong : false ≡ true = h in cc)
has_way ending.Cases (y ∷ es) e h = inr (y, refl)
has_way ending.Return es e h = inl refl
has_way ending.Unreachable es e h = inl refl

inside_or_last : {A : Type 0} (xs : List A) (x y : A) (k : ℕ) → slice_get (xs ++ x ∷ []) k ≡ Some y → (slice_get xs k ≡ Some y) ⊎ (x ≡ y)
inside_or_last [] x y zero e = inr (cc)
inside_or_last [] x y (suc k) e = cc
inside_or_last (z ∷ xs) x y zero e = inl e
inside_or_last (z ∷ xs) x y (suc k) e = inside_or_last xs x y k e

is_nothing : {A : Type 0} (xs : List A) → xs ≡ [] → (P : A → Type 0) → Each P xs
is_nothing xs e P = subst (Each P) (sym e) tt

-- ---- operands that are not the copy

untaken : (c : ValueId) (P : Taken → Type 0) (os : List Operand) (ts : List Treatment) → list_any (λ (o : Operand). o.value.0 == c.0) os ≡ false
    → Each (λ (t : Taken). t.value.0 ≡ c.0 → P t) (taken_each os ts)
untaken c P [] ts e = tt
untaken c P (o ∷ os) [] e = tt
untaken c P (o ∷ os) (t ∷ ts) e =
    let both = any_parts (λ (x : Operand). x.value.0 == c.0) (o ∷ []) os e in
    (λ same. absurd (other o same both.0), untaken c P os ts both.1)
  where
    other : (o : Operand) → o.value.0 ≡ c.0 → ((o.value.0 == c.0) || false) ≡ false → ⊥
    other o same e = let wrong : true ≡ false = sym (ap (λ b. b || false) (eq-eqb o.value.0 c.0 same)) ∙ e in cc

module _ (d : Declarations) (f : Function) (p : PointId) (c v : ValueId) (r : Ready d f p c v) where
  abbrev facts : ValueId → Option Facts
  facts = facts_in d f

  abbrev ends_copy : Mark → Bool
  ends_copy m = is_mark End (c ∷ []) m

  -- where the operand is the copy, its role is mild
  abbrev pub IsGentle : Taken → Type 0
  IsGentle t = t.value.0 ≡ c.0 → is_mild t.role ≡ true

  abbrev IsUnended : Taken → Type 0
  IsUnended t = t.value.0 ≡ c.0 → ends_owned t.role ≡ false

  abbrev IsSuited : Taken → Type 0
  IsSuited t = is_mismatch (is_borrow f t.value) t.role (kind_in d f t.value) ≡ false

  copy_kind : kind_in d f c ≡ Some kind.Owned
  copy_kind = ap (option_map kind_of_facts) r.owned

  copy_lends_nothing : is_borrow f c ≡ false
  copy_lends_nothing = ap borrows (no_borrow d f p c v r)

  gentle_by : (t : Taken) → IsUnended t → IsSuited t → IsGentle t
  gentle_by t u m same =
      let is : t.value ≡ c = same_value t.value c same in
      mild_by t.role (u same)
      (sym (ap (λ w. is_mismatch (is_borrow f w) t.role (kind_in d f w)) is ∙ ap (λ b. is_mismatch b t.role (kind_in d f c)) copy_lends_nothing ∙ ap (is_mismatch false t.role) copy_kind) ∙ m)

  suited_at : (n k : ℕ) (i : inst.Inst) → IsAt f n k i → Each IsSuited (all_taken i)
  suited_at n k i at = each_contained IsSuited (all_taken i) one
    where
      one : (t : Taken) → Contains (all_taken i) t → IsSuited t
      one t h = by (is_mismatch (is_borrow f t.value) t.role (kind_in d f t.value)) refl
        where
          by : (b : Bool) → is_mismatch (is_borrow f t.value) t.role (kind_in d f t.value) ≡ b → IsSuited t
          by false e = e
          by true e = absurd (r.facts.kinds rule.KindMismatch t.value n k (mismatch n k i t at h e))

  -- ---- the items of an instruction that is no destroy

  unended : (ts : List Taken) → list_any ends_copy (flat_map (ended facts) ts) ≡ false → Each IsUnended ts
  unended [] e = tt
  unended (t ∷ ts) e = let both = any_parts ends_copy (ended facts t) (flat_map (ended facts) ts) e in (one t both.0, unended ts both.1)
    where
      one : (t : Taken) → list_any ends_copy (ended facts t) ≡ false → IsUnended t
      one t none same =
          at (ends_owned t.role) refl
          (sym (ap (λ o. list_any ends_copy (ended_with o t)) (ap facts (same_value t.value c same) ∙ r.owned)) ∙ none)
        where
          at : (b : Bool) → ends_owned t.role ≡ b → list_any ends_copy (ended_with (Some (facts_with kind.Owned (c ∷ []))) t) ≡ false → ends_owned t.role ≡ false
          at false e h = e
          at true e h =
              let hit : list_any ends_copy (ended_with (Some (facts_with kind.Owned (c ∷ []))) t) ≡ true =
              ap (λ b. list_any ends_copy (cond b (record { subject = t.value; sort = End } ∷ []) [])) e
              ∙ ap (λ b. (b || false) || false) (eq-eqb c.0 t.value.0 (sym same)) in
              absurd (let wrong : true ≡ false = sym hit ∙ h in cc)

  unended_item : (item : Item) → IsItem f item → is_destroy (item_inst f item) ≡ false → Each IsUnended (item_taken f item)
  unended_item item is calm = unended (item_taken f item) (any_parts ends_copy (flat_map (ended facts) (item_taken f item)) (flat_map (used facts) (item_taken f item)) front).0
    where
      none : (b : Bool) → list_any ends_copy (marks_of facts f item) ≡ b → list_any ends_copy (marks_of facts f item) ≡ false
      none false e = e
      none true e = absurd (let wrong : true ≡ false = sym (r.lends.destroyed item is e) ∙ calm in cc)

      front : list_any ends_copy (flat_map (ended facts) (item_taken f item) ++ flat_map (used facts) (item_taken f item)) ≡ false
      front =
          (any_parts ends_copy (flat_map (ended facts) (item_taken f item) ++ flat_map (used facts) (item_taken f item)) (flat_map (begun facts) (item_defined f item))
          (none (list_any ends_copy (marks_of facts f item)) refl)).0

  -- ---- an instruction that ends no block

  no_more : (i : inst.Inst) (es : List edge.Edge) → i.edges ≡ [] → (P : Taken → Type 0) → Each P (flat_map taken_along i.edges)
  no_more i es e P = is_nothing (flat_map taken_along i.edges) (ap (flat_map taken_along) e) P

  by_inst : (n k : ℕ) (b : Block) (i : inst.Inst) → slice_get f.blocks n ≡ Some b → slice_get b.insts k ≡ Some i → (is_op op.DestroyValue i && takes c i) ≡ false
      → Each IsUnended (all_taken i)
  by_inst n k b i is there calm =
      let stands : inst_at f (point_at n k) ≡ Some i = ap (λ o. inst_in o k) is ∙ there in
      let inner = r.formed.inside (point_at n k) i stands in
      each_append IsUnended (taken_by i) (flat_map taken_along i.edges) (operands (is_op op.DestroyValue i) refl calm stands)
      (no_more i i.edges (no_edges (ending_of i.op) i.edges inner.goes_on inner.parts.edges) IsUnended)
    where
      operands : (x : Bool) → is_op op.DestroyValue i ≡ x → (x && takes c i) ≡ false → inst_at f (point_at n k) ≡ Some i → Each IsUnended (taken_by i)
      operands true e h stands = untaken c (λ t. ends_owned t.role ≡ false) i.operands (roles_for (roles_of i.op) (conventions_in i) (length i.operands)) h
      operands false e h stands =
          let item : IsItem f (Inst (point_at n k)) = item_of_block f n b is (Inst (point_at n k)) (refl, slice_get_within b.insts k i there) in
          subst (λ o. Each IsUnended (taken_in o)) stands
          (each_front IsUnended (taken_in (inst_at f (point_at n k))) []
          (unended_item (Inst (point_at n k)) item (ap is_destroy stands ∙ e)))

  -- ---- an instruction that ends a block

  by_end : (n : ℕ) (b : Block) (i : inst.Inst) → slice_get f.blocks n ≡ Some b → b.terminator ≡ i → Each IsUnended (all_taken i)
  by_end n b i is last =
      let term : terminator_of f n ≡ Some i = ap terminator_in is ∙ ap (λ t. Some t) last in
      let inner = r.formed.ends n i term in
      let calm = not_destroy inner.ends in
      each_append IsUnended (taken_by i) (flat_map taken_along i.edges) (operands term calm (has_way (ending_of i.op) i.edges inner.ends inner.parts.edges))
      (each_flat IsUnended taken_along i.edges (each_place (λ x. Each IsUnended (taken_along x)) i.edges (λ k x there. (by_edge term calm k x there).1)))
    where
      not_destroy : is_terminator i.op ≡ true → is_op op.DestroyValue i ≡ false
      not_destroy h = at (is_op op.DestroyValue i) refl
        where
          at : (x : Bool) → is_op op.DestroyValue i ≡ x → is_op op.DestroyValue i ≡ false
          at false e = e
          at true e = absurd (let wrong : false ≡ true = sym (ap is_terminator (op_is op.DestroyValue i e)) ∙ h in cc)

      by_edge : terminator_of f n ≡ Some i → is_op op.DestroyValue i ≡ false → (k : ℕ) (x : edge.Edge) → slice_get i.edges k ≡ Some x
          → Each IsUnended (taken_by i) × Each IsUnended (taken_along x)
      by_edge term calm k x there =
          let long : k < length b.terminator.edges =
          subst (λ (j : inst.Inst). k < length j.edges) (sym last) (slice_get_within i.edges k x there) in
          let item : IsItem f (Edge (edge_id n k)) = item_of_block f n b is (Edge (edge_id n k)) (refl, long) in
          let all = unended_item (Edge (edge_id n k)) item (ap is_destroy term ∙ calm) in (
            subst (λ o. Each IsUnended (taken_in o)) term
                (each_front IsUnended (taken_in (terminator_of f n)) (taken_along_in (edge_in (terminator_of f n) k)) all),
            subst (λ o. Each IsUnended (taken_along_in o)) (ap (λ o. edge_in o k) term ∙ there)
                (each_behind IsUnended (taken_in (terminator_of f n)) (taken_along_in (edge_in (terminator_of f n) k)) all),
          )

      operands : terminator_of f n ≡ Some i → is_op op.DestroyValue i ≡ false → HasWay (ending_of i.op) i.edges → Each IsUnended (taken_by i)
      operands term calm (inl leaves) =
          let q = point_at n (length b.insts) in
          let item : IsItem f (Exit q) = item_of_block f n b is (Exit q) (refl, (refl, ap (λ (j : inst.Inst). leaves_function (ending_of j.op)) last ∙ leaves)) in
          subst (λ o. Each IsUnended (taken_in o)) term
          (each_front IsUnended (taken_in (terminator_of f n)) [] (unended_item (Exit q) item (ap is_destroy term ∙ calm)))
      operands term calm (inr way) = (by_edge term calm zero way.0 way.1).0

  -- ---- both

  pub gentle_at : (n k : ℕ) (i : inst.Inst) → IsAt f n k i → (is_op op.DestroyValue i && takes c i) ≡ false → Each IsGentle (all_taken i)
  gentle_at n k i at calm =
      each_both IsUnended IsSuited IsGentle gentle_by (all_taken i)
      (by (inside_or_last at.within.insts at.within.terminator i k at.is_inst)) (suited_at n k i at)
    where
      by : (slice_get at.within.insts k ≡ Some i) ⊎ (at.within.terminator ≡ i) → Each IsUnended (all_taken i)
      by (inl there) = by_inst n k at.within i at.is_block there calm
      by (inr last) = by_end n at.within i at.is_block last
