-- A borrow changes for no other copy whether it can be a borrow.
use Rattle.std.proofs.Common.{◌≡◌, ◌≢◌, List, [], ◌∷◌, ◌++◌, refl, sym, ap, ◌∙◌, subst, true, false, Option, Some, None}
use Rattle.std.specs.Prelude.{◌==◌, ◌↔◌, filter_map, option_map}
use Rattle.std.specs.List.{list_any}
use Rattle.std.proofs.lemmas.Bool.{eqb-true}
use Rattle.std.proofs.lemmas.List.{append-nil}
use Rattle.sil_verifier_trails.specs.borrow_scopes.inner.Runs.{sort_for}
use Rattle.instruction_table.specs.Forms.{number_of}
use Rattle.instruction_table.specs.declared.entries.Role.TheVariants as role
use Rattle.instruction_table.specs.declared.op.Op.{Op}
use Rattle.instruction_table.specs.declared.op.Op.TheVariants as op
use Rattle.sil_cfg_items.specs.Items.{item_defined, taken_in}
use Rattle.sil_cfg_items.specs.Parts.{inst_at, item_inst}
use Rattle.sil_cfg_items.specs.Roles.{by_row, taken_as}
use Rattle.sil_cfg_items.specs.declared.taken.Taken.{Taken}
use Rattle.numbered_form.specs.Lists.{Each}
use Rattle.numbered_form.specs.inner.Parts.{has_operands}
use Rattle.ownership_kinds_chains.specs.OwnershipChains.Facts.{known_or}
use Rattle.ownership_kinds_chains.specs.OwnershipMarks.Marks.{marks_of}
use Rattle.ownership_kinds_chains.specs.declared.ownership_marks.mark.Mark.{Mark}
use Rattle.ownership_kinds_chains.specs.declared.ownership_marks.mark.MarkSort.{MarkSort}
use Rattle.ownership_kinds_chains.specs.declared.ownership_marks.mark.MarkSort.TheVariants.{End}
use Rattle.reach_engine_marks.specs.PathPatterns.Along.{IsKept}
use Rattle.reach_engine_marks.specs.PathPatterns.inner.Runs.{IsHeld}
use Rattle.sil_ast.specs.declared.function.Function.{Function}
use Rattle.sil_ast.specs.declared.inst.Inst as inst
use Rattle.sil_ast.specs.declared.operands.Operand.{Operand}
use Rattle.sil_ast.specs.declared.place.PointId.{PointId}
use Rattle.sil_ast.specs.declared.place.ValueId.{ValueId}
use Rattle.sil_cfg.specs.Items.{flow_of}
use Rattle.sil_cfg.specs.declared.item.Item.{Item}
use Rattle.sil_cfg.specs.declared.item.Item.TheVariants.{Entry, Inst, Edge, Exit}
use Rattle.sil_types_declarations.specs.TypeDefinitions.Declarations.{Declarations}
use Rattle.copy_pairing_model.specs.Copies.{IsCopy, is_op}
use Rattle.copy_pairing_model.specs.Removable.{IsBorrowable, IsFreeAt, IsOnlyDestroyed, is_destroy, is_mark}
use Rattle.copy_pairing_model.specs.Rewritten.{lent, lent_inst, takes}
use Rattle.copy_pairing_acceptance.proofs.LentFunctions.Facts.{bases_lent}
use Rattle.copy_pairing_acceptance.proofs.LentFunctions.Graph.{flow_lent, is_item}
use Rattle.copy_pairing_acceptance.proofs.LentFunctions.Insts.{Becomes, becomes, borrows, ends, stays}
use Rattle.copy_pairing_acceptance.proofs.LentFunctions.Marks.{IsOne, first, marks_lent, one_operand}
use Rattle.copy_pairing_acceptance.proofs.LentFunctions.Parts.{inst_at_lent, terminator_lent}
use Rattle.copy_pairing_acceptance.proofs.LentFunctions.Ready.{Ready}
use Rattle.copy_pairing_acceptance.proofs.MovedFunctions.Marks.{takes_one}
use Rattle.copy_pairing_acceptance.proofs.RewritingOrder.Apart.{copies_apart, stands}
use Rattle.copy_pairing_acceptance.proofs.RewritingOrder.Ends as ending
use Rattle.copy_pairing_acceptance.proofs.RewritingOrder.LentBack.{borrowable_back, copy_back, none_there, now, was}
use Rattle.copy_pairing_acceptance.proofs.RewritingOrder.Order.{same_point}

module _ (d : Declarations) (f : Function) (p : PointId) (c v : ValueId) (r : Ready d f p c v) where
  abbrev Spares : MarkSort → List ValueId → ValueId → List Mark → Mark → Type 0
  Spares sort values h before m = is_mark sort values m ≡ true → IsHeld (filter_map (sort_for h) before) → ⊥

  free_forth : (sort : MarkSort) (values : List ValueId) (h : ValueId) → IsFreeAt (was d f p c v r) f sort values h → IsFreeAt (now d f p c v r) (lent c f) sort values h
  free_forth sort values h free =
      subst (λ g. IsKept g (marks_of (now d f p c v r) (lent c f)) (Spares sort values h)) (sym (flow_lent c f))
      (subst (λ (ms : Item → List Mark). IsKept (flow_of f) ms (Spares sort values h)) (λ i x. sym (marks_lent d f p c v r x) i) free)

  module _ (q : PointId) (e w : ValueId) (here : IsCopy (lent c f) q e w) where
    apart : e.0 ≢ c.0
    apart =
        copies_apart f r.formed.counted q e w (copy_back c f q e w here) p
        (λ x y. none_there d f p c v r e w (subst (λ z. IsCopy (lent c f) z e w) (same_point q p (sym x) (sym y)) here)) c v r.copy

    -- a destroy of the copy ends nothing else
    ends_none : (x : PointId) (i : inst.Inst) → inst_at f x ≡ Some i → i.op ≡ op.DestroyValue → takes c i ≡ true
        → list_any (is_mark End (e ∷ [])) (marks_of (was d f p c v r) f (Inst x)) ≡ false
    ends_none x i here is taken =
        ending.unended e (was d f p c v r) (taken_in (inst_at f x) ++ []) (item_defined f (Inst x))
        (subst (Each (λ (t : Taken). e.0 ≢ t.value.0)) (sym one) ((λ k. apart (k ∙ own)), tt))
      where
        alone : IsOne i.operands
        alone = one_operand i.operands (subst (λ o. has_operands o i.operands ≡ true) is (r.formed.parts x.block.0 x.index i (stands f x i here)).operands)

        own : alone.operand.value.0 ≡ c.0
        own = eqb-true alone.operand.value.0 c.0
            (first (alone.operand.value.0 == c.0) (sym (ap (list_any (λ (o : Operand). o.value.0 == c.0)) alone.alone) ∙ taken))

        one : taken_in (inst_at f x) ++ [] ≡ taken_as alone.operand (by_row role.Consumed) ∷ []
        one = append-nil (taken_in (inst_at f x)) ∙ ap taken_in here ∙ takes_one i op.DestroyValue role.Consumed alone.operand is refl refl alone.alone

    by_becoming : (x : PointId) (i j : inst.Inst) → inst_at f x ≡ Some i → Becomes c i j → list_any (is_mark End (e ∷ [])) (marks_of (was d f p c v r) f (Inst x)) ≡ true
        → is_op op.DestroyValue i ≡ true → is_op op.DestroyValue j ≡ true
    by_becoming x i _ here (borrows is m) ended h =
        absurd (let wrong : false ≡ true = sym (ap (λ (o : Op). number_of o == number_of op.DestroyValue) is) ∙ h in cc)
    by_becoming x i _ here (ends is m) ended h = absurd (let wrong : false ≡ true = sym (ends_none x i here is m) ∙ ended in cc)
    by_becoming x i _ here (stays a b) ended h = h

    item_forth : (i : Item) → list_any (is_mark End (e ∷ [])) (marks_of (was d f p c v r) f i) ≡ true → is_destroy (item_inst f i) ≡ true → is_destroy (item_inst (lent c f) i) ≡ true
    item_forth Entry ended h = h
    item_forth (Inst x) ended h = ap is_destroy (inst_at_lent c f x) ∙ at (inst_at f x) refl h
      where
        at : (o : Option inst.Inst) → inst_at f x ≡ o → is_destroy o ≡ true → is_destroy (option_map (lent_inst c) o) ≡ true
        at None is k = k
        at (Some i) is k = by_becoming x i (lent_inst c i) is (becomes c i) ended k
    item_forth (Edge x) ended h = ap is_destroy (terminator_lent c f x.block.0) ∙ h
    item_forth (Exit x) ended h = ap is_destroy (terminator_lent c f x.block.0) ∙ h

    only_forth : IsOnlyDestroyed (was d f p c v r) f e → IsOnlyDestroyed (now d f p c v r) (lent c f) e
    only_forth h i there ended =
        let same : list_any (is_mark End (e ∷ [])) (marks_of (was d f p c v r) f i) ≡ true = ap (list_any (is_mark End (e ∷ []))) (sym (marks_lent d f p c v r i)) ∙ ended in
        item_forth i same (h i (is_item c f i there) same)

    borrowable_forth : IsBorrowable (was d f p c v r) f e w → IsBorrowable (now d f p c v r) (lent c f) e w
    borrowable_forth h = record {
      destroyed = only_forth h.destroyed;
      bases_stay = subst (λ vs. IsFreeAt (now d f p c v r) (lent c f) End vs e) (sym (bases_lent d f p c v r w))
          (free_forth End (known_or (was d f p c v r) w).bases e h.bases_stay);
    }

    pub borrowable_alike : IsBorrowable (now d f p c v r) (lent c f) e w ↔ IsBorrowable (was d f p c v r) f e w
    borrowable_alike = (borrowable_back d f p c v r e w, borrowable_forth)
