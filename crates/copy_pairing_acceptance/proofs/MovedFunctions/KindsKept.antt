-- 302 to 305: what stands at a point stood at a point before, with the same kinds, but for the move, which takes an Owned value.
use Rattle.std.proofs.Common.{◌≡◌, ◌⊎◌, inl, inr, ℕ, zero, suc, ◌<◌, List, [], ◌∷◌, ◌++◌, length, refl, sym, ap, ap₂, ◌∙◌, subst, append_assoc, true, false, Option, None, Some, arith}
use Rattle.std.specs.Prelude.{◌&&◌, ◌||◌, Contains, is_none, option_map}
use Rattle.std.specs.List.{flat_map, list_any, slice_get}
use Rattle.std.proofs.lemmas.Bool.{cases_eq}
use Rattle.std.proofs.lemmas.List.Elements.{Contains-append_cases, Contains-append_right}
use Rattle.std.proofs.lemmas.Option.{same_Some}
use Rattle.instruction_table.specs.Forms.{ending_of}
use Rattle.instruction_table.specs.declared.entries.Ending.{Ending}
use Rattle.instruction_table.specs.declared.entries.Ending.TheVariants as ending
use Rattle.instruction_table.specs.declared.entries.Role.TheVariants as role
use Rattle.instruction_table.specs.declared.op.Op.TheVariants as op
use Rattle.sil_ast.specs.declared.function.Block.{Block}
use Rattle.sil_ast.specs.declared.function.BlockArg.{BlockArg}
use Rattle.sil_ast.specs.declared.function.Function.{Function}
use Rattle.sil_ast.specs.declared.inst.Edge.{Edge}
use Rattle.sil_ast.specs.declared.inst.Inst.{Inst}
use Rattle.sil_ast.specs.declared.module.Module.{Module}
use Rattle.sil_ast.specs.declared.place.PointId.{PointId}
use Rattle.sil_ast.specs.declared.place.ValueId.{ValueId}
use Rattle.sil_cfg.specs.Items.{point_at}
use Rattle.sil_rules.specs.declared.rule.Rule.{Rule}
use Rattle.sil_rules.specs.declared.rule.Rule.TheVariants as rule
use Rattle.numbered_form.specs.Insts.{insts_of}
use Rattle.numbered_form.specs.PointChecks.Points.{IsAt}
use Rattle.sil_types_declarations.specs.TypeDefinitions.Declarations.{Declarations, declarations_of}
use Rattle.sil_types_declarations.specs.TypeDefinitions.Measures.{is_trivial}
use Rattle.sil_types_declarations.specs.declared.type_definitions.kind.Kind.{Kind}
use Rattle.sil_types_declarations.specs.declared.type_definitions.kind.Kind.TheVariants as kind
use Rattle.sil_cfg_items.specs.Roles.{by_row, taken_along, taken_as, taken_by}
use Rattle.sil_cfg_items.specs.declared.taken.Taken.{Taken}
use Rattle.numbered_form.specs.ValueTables.Borrows.{is_borrow, is_borrow_in}
use Rattle.ownership_kinds_chains.specs.OwnershipChains.Chains.{IsCyclic}
use Rattle.copy_pairing_model.specs.ownership_kinds_origins.Facts.{facts_in, kind_in, kind_of_facts}
use Rattle.sil_verifier_trails.specs.ownership_kinds.Statics.{HasKinds, IsBroken, IsDefinedAt, IsOnRing, all_taken, is_annotated_well, is_guaranteed}
use Rattle.sil_verifier_trails.specs.ownership_kinds.Statics.{is_lacking_default, is_mismatch, lacks_argument, lacks_by, mixed_operand, needs_argument, no_arguments}
use Rattle.sil_verifier_trails.specs.ownership_kinds.Statics.IsBroken.{annotated, lacking, mismatch, mixed, on_ring}
use Rattle.sil_verifier_trails.specs.ownership_kinds.Statics.IsDefinedAt.{argument, result}
use Rattle.sil_verifier_trails.specs.sil_verifier_accepted.AcceptedModules.Shown.IsShownIn.{kind as shown_kind}
use Rattle.sil_verifier_trails.specs.sil_verifier_accepted.AcceptedModules.inner.Checked.{IsVerified}
use Rattle.copy_pairing_model.specs.Optimised.{facts_of}
use Rattle.copy_pairing_model.specs.Removable.{IsMovable}
use Rattle.copy_pairing_acceptance.specs.MovedFunctions.inner.Structure.{stood_at}
use Rattle.copy_pairing_acceptance.proofs.MovedFunctions.InModule.{clean}
use Rattle.copy_pairing_acceptance.proofs.MovedFunctions.Lists.{at_seam, stood_there}
use Rattle.copy_pairing_acceptance.proofs.MovedFunctions.Marks.{known, takes_one}
use Rattle.copy_pairing_acceptance.proofs.MovedFunctions.Places.{after, block_elsewhere, block_there, new_block, told_of_block}
use Rattle.copy_pairing_acceptance.proofs.MovedFunctions.SameFacts.{borrows_are, definitions_are, facts_are, renamings_are, switch_same}
use Rattle.copy_pairing_acceptance.proofs.MovedFunctions.Split.{IsSplit, insts_moved, move_of}
use Rattle.copy_pairing_acceptance.proofs.MovedFunctions.TheCopy.{copy_at}

-- ---- what stands at a point

-- it stood at a point before, or it is the move
pub data Stood (f : Function) (i moved : Inst) : Type 0 where
  before : (n k : ℕ) → IsAt f n k i → Stood f i moved
  move : i ≡ moved → Stood f i moved

module _ {f : Function} {p : PointId} {last : ℕ} {c v : ValueId} (s : IsSplit f p last c v) where
  abbrev tail_of : List Inst
  tail_of = s.back ++ s.block.terminator ∷ []

  new_there : insts_of (new_block s) ≡ s.front ++ move_of s.copy ∷ (s.middle ++ tail_of)
  new_there =
      ap (λ xs. xs ++ s.block.terminator ∷ []) (insts_moved s) ∙ append_assoc s.front (move_of s.copy ∷ (s.middle ++ s.back)) (s.block.terminator ∷ [])
      ∙ ap (λ xs. s.front ++ move_of s.copy ∷ xs) (append_assoc s.middle s.back (s.block.terminator ∷ []))

  old_there : insts_of s.block ≡ s.front ++ s.copy ∷ (s.middle ++ s.destroy ∷ tail_of)
  old_there =
      ap (λ xs. xs ++ s.block.terminator ∷ []) s.insts ∙ append_assoc s.front (s.copy ∷ (s.middle ++ s.destroy ∷ s.back)) (s.block.terminator ∷ [])
      ∙ ap (λ xs. s.front ++ s.copy ∷ xs) (append_assoc s.middle (s.destroy ∷ s.back) (s.block.terminator ∷ []))

  pub stood : (n k : ℕ) (i : Inst) → IsAt (after s) n k i → Stood f i (move_of s.copy)
  stood n k i h = by (cases_eq n p.block.0) (cases_eq k (length s.front))
    where
      by : (n ≡ p.block.0) ⊎ (n ≡ p.block.0 → ⊥) → (k ≡ length s.front) ⊎ (k ≡ length s.front → ⊥) → Stood f i (move_of s.copy)
      by (inr other) x = before n k (record { within = h.within; is_block = sym (block_elsewhere s n other) ∙ h.is_block; is_inst = h.is_inst })
      by (inl here) x = within x
        where
          same : h.within ≡ new_block s
          same = same_Some h.within (new_block s) (sym h.is_block ∙ ap (slice_get (after s).blocks) here ∙ block_there s)

          at_place : slice_get (s.front ++ move_of s.copy ∷ (s.middle ++ tail_of)) k ≡ Some i
          at_place = ap (λ xs. slice_get xs k) (sym (ap insts_of same ∙ new_there)) ∙ h.is_inst

          within : (k ≡ length s.front) ⊎ (k ≡ length s.front → ⊥) → Stood f i (move_of s.copy)
          within (inl e) = move (same_Some i (move_of s.copy)
              (sym at_place ∙ ap (slice_get (s.front ++ move_of s.copy ∷ (s.middle ++ tail_of))) e ∙ at_seam s.front (move_of s.copy) (s.middle ++ tail_of)))
          within (inr ne) = before p.block.0 (stood_at last k) (record {
            within = s.block;
            is_block = s.there;
            is_inst = ap (λ xs. slice_get xs (stood_at last k)) old_there
                ∙ sym (stood_there s.copy (move_of s.copy) s.middle s.destroy tail_of s.front last k s.at_destroy ne) ∙ at_place;
          })

  -- a block of the same arguments stands there
  record IsArgBlock (n : ℕ) (args : List BlockArg) : Type 0 where
    block : Block
    there : slice_get f.blocks n ≡ Some block
    same : block.args ≡ args

  arg_block : (n : ℕ) (b : Block) → slice_get (after s).blocks n ≡ Some b → IsArgBlock n b.args
  arg_block n b e = by (cases_eq n p.block.0)
    where
      by : (n ≡ p.block.0) ⊎ (n ≡ p.block.0 → ⊥) → IsArgBlock n b.args
      by (inr other) = record { block = b; there = sym (block_elsewhere s n other) ∙ e; same = refl }
      by (inl here) = record {
        block = s.block;
        there = ap (slice_get f.blocks) here ∙ s.there;
        same = ap (λ (x : Block). x.args) (same_Some (new_block s) b (sym (block_there s) ∙ ap (slice_get (after s).blocks) (sym here) ∙ e));
      }

module _ (m : Module) (n : ℕ) (f : Function) (verified : IsVerified m) (in_module : slice_get m.functions n ≡ Some f) (p : PointId) (c v : ValueId)
    (movable : IsMovable (facts_of m f) f p c v) (s : IsSplit f p movable.last c v) where
  abbrev d : Declarations
  d = declarations_of m

  unbroken : (r : Rule) (w : ValueId) (b k : ℕ) → IsBroken d f r w b k → ⊥
  unbroken r w b k h = clean m n f verified in_module p.block.0 s.block s.there (record { rule = r; subject = w; other = None; point = point_at b k; walk = [] }) (shown_kind refl refl h)

  kinds_are : kind_in d (after s) ≡ kind_in d f
  kinds_are = ap (λ facts w. option_map kind_of_facts (facts w)) (facts_are m n f verified in_module s)

  borrow_same : (w : ValueId) → is_borrow (after s) w ≡ is_borrow f w
  borrow_same w = ap (λ bs. is_borrow_in bs w) (borrows_are m n f verified in_module s)

  v_kind : kind_in d f v ≡ Some kind.Owned
  v_kind = let x = known (facts_in d f v) movable.owned in ap (option_map kind_of_facts) x.1 ∙ ap (λ k. Some k) x.2

  -- ---- what the instruction is defined by

  ring_same : (w : ValueId) → IsOnRing d (after s) w → IsOnRing d f w
  ring_same w (inl h) = inl (subst (λ defs. IsCyclic defs w) (definitions_are m n f verified in_module s) h)
  ring_same w (inr h) = inr (subst (λ defs. IsCyclic defs w) (renamings_are m n f verified in_module s) h)

  defined_before : (w : ValueId) (b k : ℕ) → IsDefinedAt (after s) w b k → (b' : ℕ) × (k' : ℕ) × IsDefinedAt f w b' k'
  defined_before w b k (result _ _ i here has) = by (stood s b k i here)
    where
      by : Stood f i (move_of s.copy) → (b' : ℕ) × (k' : ℕ) × IsDefinedAt f w b' k'
      by (before b' k' there) = (b', k', result b' k' i there has)
      by (move e) = (p.block.0, p.index, result p.block.0 p.index s.copy (copy_at s) (subst (λ (x : Inst). Contains x.results w) e has))
  defined_before w b k (argument _ block a there has is) =
      let it = arg_block s b block there in
      (b, 0, argument b it.block a it.there (subst (λ args. Contains args a) (sym it.same) has) is)

  -- ---- lacking defaults

  lacking_same : (e : Edge) → is_lacking_default (after s) e ≡ is_lacking_default f e
  lacking_same e = ap (λ b. is_none e.case_of && b) (told_of_block s no_arguments refl e.block.0)

  any_same : (es : List Edge) → list_any (is_lacking_default (after s)) es ≡ list_any (is_lacking_default f) es
  any_same [] = refl
  any_same (e ∷ es) = ap₂ (λ x y. x || y) (lacking_same e) (any_same es)

  lacks_same : (e : Ending) (i : Inst) → lacks_by e (after s) i ≡ lacks_by e f i
  lacks_same ending.Inside i = refl
  lacks_same ending.OneBranch i = refl
  lacks_same ending.TwoBranches i = refl
  lacks_same ending.Cases i = any_same i.edges
  lacks_same ending.Return i = refl
  lacks_same ending.Unreachable i = refl

  -- ---- the move

  single : {X : Type 0} (x y : X) → Contains (x ∷ []) y → x ≡ y
  single x y (zero, lt, e) = e
  single x y (suc k, lt, e) = absurd (let no : suc k < 1 = lt in omega arith)

  taken_move : taken_by (move_of s.copy) ≡ taken_as s.copies.operand (by_row role.Consumed) ∷ []
  taken_move = takes_one (move_of s.copy) op.MoveValue role.Consumed s.copies.operand refl refl refl s.copies.operands

  move_fits : (t : Taken) → Contains (all_taken (move_of s.copy)) t → is_mismatch (is_borrow f t.value) t.role (kind_in d f t.value) ≡ true → ⊥
  move_fits t has wrong = by (Contains-append_cases (taken_by (move_of s.copy)) (flat_map taken_along s.copy.edges) t has)
    where
      by : Contains (taken_by (move_of s.copy)) t ⊎ Contains (flat_map taken_along s.copy.edges) t → ⊥
      by (inl h) =
          let same : taken_as s.copies.operand (by_row role.Consumed) ≡ t = single _ t (subst (λ ts. Contains ts t) taken_move h) in
          let consumed : is_guaranteed (kind_in d f s.copies.operand.value) ≡ true = ap (λ (x : Taken). is_mismatch (is_borrow f x.value) x.role (kind_in d f x.value)) same ∙ wrong in
          let no : false ≡ true = sym (ap is_guaranteed (ap (kind_in d f) s.copies.copied ∙ v_kind)) ∙ consumed in
          cc
      by (inr h) =
          unbroken rule.KindMismatch t.value p.block.0 p.index
          (mismatch p.block.0 p.index s.copy t (copy_at s) (Contains-append_right (taken_by s.copy) (flat_map taken_along s.copy.edges) t h) wrong)

  -- ---- all rules

  pub kinds_kept : HasKinds d (after s)
  kinds_kept _ _ _ _ (on_ring w b k ring defined) =
      let it = defined_before w b k defined in
      unbroken rule.CyclicForwarding w it.0 it.1 (on_ring w it.0 it.1 (ring_same w ring) it.2)
  kinds_kept _ _ _ _ (mixed w b k i here e) = by (stood s b k i here) (ap (λ kinds. mixed_operand kinds i) (sym kinds_are) ∙ e)
    where
      by : Stood f i (move_of s.copy) → mixed_operand (kind_in d f) i ≡ Some w → ⊥
      by (before b' k' there) h = unbroken rule.MixedForwarding w b' k' (mixed w b' k' i there h)
      by (move is) h = let no : None ≡ Some w = ap (mixed_operand (kind_in d f)) (sym is) ∙ h in cc
  kinds_kept _ _ _ _ (mismatch b k i t here has e) =
      by (stood s b k i here) (ap₂ (λ x (kinds : ValueId → Option Kind). is_mismatch x t.role (kinds t.value)) (sym (borrow_same t.value)) (sym kinds_are) ∙ e)
    where
      by : Stood f i (move_of s.copy) → is_mismatch (is_borrow f t.value) t.role (kind_in d f t.value) ≡ true → ⊥
      by (before b' k' there) h = unbroken rule.KindMismatch t.value b' k' (mismatch b' k' i t there has h)
      by (move is) h = move_fits t (subst (λ x. Contains (all_taken x) t) is has) h
  kinds_kept _ _ _ _ (annotated b block a lt there has e) =
      let it = arg_block s b block there in
      unbroken rule.ArgumentKind a.value b 0
      (annotated b it.block a lt it.there (subst (λ args. Contains args a) (sym it.same) has)
      (ap₂ (λ kinds o. is_annotated_well kinds o (is_trivial d a.ty) a.kind) (sym kinds_are) (sym (switch_same m n f verified in_module s b)) ∙ e))
  kinds_kept _ _ _ _ (lacking b k i w here lacks first needs) =
      by (stood s b k i here) (sym (lacks_same (ending_of i.op) i) ∙ lacks) (ap (λ (kinds : ValueId → Option Kind). needs_argument (kinds w)) (sym kinds_are) ∙ needs)
    where
      by : Stood f i (move_of s.copy) → lacks_argument f i ≡ true → needs_argument (kind_in d f w) ≡ true → ⊥
      by (before b' k' there) l h = unbroken rule.ArgumentKind w b' k' (lacking b' k' i w there l first h)
      by (move is) l h = let no : false ≡ true = ap (lacks_argument f) (sym is) ∙ l in cc
