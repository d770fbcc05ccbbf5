-- What lets another copy go, where a copy is lent, let it go before.
use Rattle.std.proofs.Common.{◌≡◌, ℕ, List, [], ◌∷◌, refl, sym, ap, ◌∙◌, subst, Bool, true, false, Option, Some, None}
use Rattle.std.specs.Prelude.{◌==◌, filter_map, option_map, unwrap_or}
use Rattle.std.specs.List.{list_any}
use Rattle.std.proofs.lemmas.Bool.{eqb-true}
use Rattle.std.proofs.lemmas.Option.{same_Some}
use Rattle.sil_verifier_trails.specs.borrow_scopes.Scopes.{bases_in, lent_bases}
use Rattle.sil_verifier_trails.specs.borrow_scopes.inner.Runs.{sort_for}
use Rattle.instruction_table.specs.declared.op.Op.TheVariants as op
use Rattle.sil_cfg_items.specs.Parts.{inst_at, item_inst}
use Rattle.ownership_kinds_chains.specs.OwnershipChains.Facts.{facts_with, has, is_owned, known_or}
use Rattle.ownership_kinds_chains.specs.declared.ownership_chains.facts.Facts.{Facts}
use Rattle.copy_pairing_model.specs.ownership_kinds_origins.Facts.{facts_in}
use Rattle.ownership_kinds_chains.specs.OwnershipMarks.Marks.{marks_of}
use Rattle.ownership_kinds_chains.specs.declared.ownership_marks.mark.Mark.{Mark}
use Rattle.ownership_kinds_chains.specs.declared.ownership_marks.mark.MarkSort.{MarkSort}
use Rattle.ownership_kinds_chains.specs.declared.ownership_marks.mark.MarkSort.TheVariants.{Begin, End}
use Rattle.reach_engine_marks.specs.PathPatterns.Along.{IsKept}
use Rattle.reach_engine_marks.specs.PathPatterns.inner.Runs.{IsHeld}
use Rattle.sil_ast.specs.declared.function.Function.{Function}
use Rattle.sil_ast.specs.declared.inst.Inst as inst
use Rattle.sil_ast.specs.declared.place.PointId.{PointId}
use Rattle.sil_ast.specs.declared.place.ValueId.{ValueId}
use Rattle.sil_cfg.specs.Items.{flow_of, point_at}
use Rattle.sil_cfg.specs.declared.item.Item.{Item}
use Rattle.sil_cfg.specs.declared.item.Item.TheVariants.{Entry, Inst, Edge, Exit}
use Rattle.sil_types_declarations.specs.TypeDefinitions.Declarations.{Declarations}
use Rattle.sil_types_declarations.specs.declared.type_definitions.kind.Kind.TheVariants as kind
use Rattle.numbered_form.specs.ValueTables.Borrows.{borrow_in, borrows_of, lends, lent_by}
use Rattle.copy_pairing_model.specs.Copies.{IsCopy, IsDestroy, is_op}
use Rattle.copy_pairing_model.specs.Removable.{IsBorrowable, IsDestroyedNext, IsFreeAt, IsMovable, IsOnlyDestroyed, IsUnlent, concerns, is_destroy, is_mark}
use Rattle.copy_pairing_model.specs.Rewritten.{lent, lent_inst, with_op}
use Rattle.copy_pairing_acceptance.proofs.LentFunctions.Facts.{bases_lent, other_facts}
use Rattle.copy_pairing_acceptance.proofs.LentFunctions.Graph.{flow_lent, is_lent_item}
use Rattle.copy_pairing_acceptance.proofs.LentFunctions.Insts.{Becomes, becomes, borrows, ends, stays}
use Rattle.copy_pairing_acceptance.proofs.LentFunctions.KindRules.{borrow_other}
use Rattle.copy_pairing_acceptance.proofs.LentFunctions.Marks.{marks_lent}
use Rattle.copy_pairing_acceptance.proofs.LentFunctions.Parts.{inst_at_lent, terminator_lent}
use Rattle.copy_pairing_acceptance.proofs.LentFunctions.Ready.{Ready}
use Rattle.copy_pairing_acceptance.proofs.LentFunctions.Tables.{bases_same, not_owned}
use Rattle.copy_pairing_acceptance.proofs.LentFunctions.ValueRows.{copy_lent, no_borrow}

-- ---- instructions

destroy_stays : (c : ValueId) (i j : inst.Inst) → Becomes c i j → is_op op.DestroyValue j ≡ true → j ≡ i
destroy_stays c i _ (borrows e m) h = absurd (let wrong : false ≡ true = h in cc)
destroy_stays c i _ (ends e m) h = absurd (let wrong : false ≡ true = h in cc)
destroy_stays c i _ (stays e m) h = refl

copy_stays : (c : ValueId) (i j : inst.Inst) → Becomes c i j → is_op op.CopyValue j ≡ true → j ≡ i
copy_stays c i _ (borrows e m) h = absurd (let wrong : false ≡ true = h in cc)
copy_stays c i _ (ends e m) h = absurd (let wrong : false ≡ true = h in cc)
copy_stays c i _ (stays e m) h = refl

destroyed : (c : ValueId) (o : Option inst.Inst) → is_destroy (option_map (lent_inst c) o) ≡ true → is_destroy o ≡ true
destroyed c None h = h
destroyed c (Some i) h = subst (λ j. is_op op.DestroyValue j ≡ true) (destroy_stays c i (lent_inst c i) (becomes c i) h) h

module _ (c : ValueId) (f : Function) where
  -- what stood at a point
  old_inst : (q : PointId) (j : inst.Inst) → inst_at (lent c f) q ≡ Some j → (i : inst.Inst) × (inst_at f q ≡ Some i) × (lent_inst c i ≡ j)
  old_inst q j e = at (inst_at f q) refl (sym (inst_at_lent c f q) ∙ e)
    where
      at : (o : Option inst.Inst) → inst_at f q ≡ o → option_map (lent_inst c) o ≡ Some j → (i : inst.Inst) × (inst_at f q ≡ Some i) × (lent_inst c i ≡ j)
      at None is h = absurd (let wrong : None ≡ Some j = h in cc)
      at (Some i) is h = (i, is, same_Some (lent_inst c i) j h)

  destroy_back : (q : PointId) (w : ValueId) → IsDestroy (lent c f) q w → IsDestroy f q w
  destroy_back q w h =
      let was = old_inst q h.inst h.stands in
      let kept : h.inst ≡ was.0 =
      sym was.2 ∙ destroy_stays c was.0 (lent_inst c was.0) (becomes c was.0) (ap (is_op op.DestroyValue) was.2 ∙ h.destroys.destroys) in
      record { inst = h.inst; stands = was.1 ∙ ap (λ i. Some i) (sym kept); destroys = h.destroys }

  pub copy_back : (q : PointId) (e w : ValueId) → IsCopy (lent c f) q e w → IsCopy f q e w
  copy_back q e w h =
      let was = old_inst q h.inst h.stands in
      let kept : h.inst ≡ was.0 =
      sym was.2 ∙ copy_stays c was.0 (lent_inst c was.0) (becomes c was.0) (ap (is_op op.CopyValue) was.2 ∙ h.copies.copies) in
      record { inst = h.inst; stands = was.1 ∙ ap (λ i. Some i) (sym kept); copies = h.copies }

  item_back : (i : Item) → is_destroy (item_inst (lent c f) i) ≡ true → is_destroy (item_inst f i) ≡ true
  item_back Entry h = h
  item_back (Inst q) h = destroyed c (inst_at f q) (ap is_destroy (sym (inst_at_lent c f q)) ∙ h)
  item_back (Edge e) h = ap is_destroy (sym (terminator_lent c f e.block.0)) ∙ h
  item_back (Exit q) h = ap is_destroy (sym (terminator_lent c f q.block.0)) ∙ h

module _ (d : Declarations) (f : Function) (p : PointId) (c v : ValueId) (r : Ready d f p c v) where
  abbrev pub was : ValueId → Option Facts
  was = facts_in d f

  abbrev pub now : ValueId → Option Facts
  now = facts_in d (lent c f)

  abbrev Spares : MarkSort → List ValueId → ValueId → List Mark → Mark → Type 0
  Spares sort values h before m = is_mark sort values m ≡ true → IsHeld (filter_map (sort_for h) before) → ⊥

  free_back : (sort : MarkSort) (values : List ValueId) (h : ValueId) → IsFreeAt now (lent c f) sort values h → IsFreeAt was f sort values h
  free_back sort values h free =
      subst (λ (ms : Item → List Mark). IsKept (flow_of f) ms (Spares sort values h)) (λ i x. marks_lent d f p c v r x i)
      (subst (λ g. IsKept g (marks_of now (lent c f)) (Spares sort values h)) (flow_lent c f) free)

  -- ---- as a borrow

  only_back : (e : ValueId) → IsOnlyDestroyed now (lent c f) e → IsOnlyDestroyed was f e
  only_back e h i there ended =
      item_back c f i (h i (is_lent_item c f i there) (ap (list_any (is_mark End (e ∷ []))) (marks_lent d f p c v r i) ∙ ended))

  pub borrowable_back : (e w : ValueId) → IsBorrowable now (lent c f) e w → IsBorrowable was f e w
  borrowable_back e w h = record {
    destroyed = only_back e h.destroyed;
    bases_stay = free_back End (known_or was w).bases e (subst (λ vs. IsFreeAt now (lent c f) End vs e) (bases_lent d f p c v r w) h.bases_stay);
  }

  -- ---- as a move

  owned_back : (w : ValueId) → is_owned (known_or now w).kind ≡ true → is_owned (known_or was w).kind ≡ true
  owned_back w h = at (w.0 == c.0) refl
    where
      at : (b : Bool) → (w.0 == c.0) ≡ b → is_owned (known_or was w).kind ≡ true
      at true e = absurd (let wrong : false ≡ true = sym (not_owned d f p c v r w (eqb-true w.0 c.0 e)) ∙ h in cc)
      at false e = ap (λ (o : Option Facts). is_owned (unwrap_or o (facts_with kind.Plain [])).kind) (sym (other_facts d f p c v r w e)) ∙ h

  lent_forth : (s w : ValueId) → has (lent_bases f (known_or was) s.0) w.0 ≡ true → has (lent_bases (lent c f) (known_or now) s.0) w.0 ≡ true
  lent_forth s w h = at (s.0 == c.0) refl
    where
      at : (b : Bool) → (s.0 == c.0) ≡ b → has (lent_bases (lent c f) (known_or now) s.0) w.0 ≡ true
      at true e =
          let none : lent_bases f (known_or was) s.0 ≡ [] =
          ap (λ k. bases_in (known_or was) (lends (borrow_in (borrows_of f) k))) (eqb-true s.0 c.0 e) ∙ ap (λ b. bases_in (known_or was) (lends b)) (no_borrow d f p c v r) in
          absurd (let wrong : false ≡ true = sym (ap (λ vs. has vs w.0) none) ∙ h in cc)
      at false e =
          ap (λ b. has (bases_in (known_or now) (lends b)) w.0) (borrow_other d f p c v r s e)
          ∙ ap (λ vs. has vs w.0) (bases_same d f p c v r (lent_by f s.0)) ∙ h

  unlent_back : (e w : ValueId) → IsUnlent now (lent c f) e w → IsUnlent was f e w
  unlent_back e w h s lent_so = free_back Begin (e ∷ []) s (h s (lent_forth s w lent_so))

  next_back : (q : PointId) (e w : ValueId) (last : ℕ) → IsDestroyedNext now (lent c f) q e w last → IsDestroyedNext was f q e w last
  next_back q e w last h = record {
    behind = h.behind;
    destroyed = destroy_back c f (point_at q.block.0 last) w h.destroyed;
    quiet = λ k after before.
        ap (list_any (concerns e w)) (sym (marks_lent d f p c v r (Inst (point_at q.block.0 k)))) ∙ h.quiet k after before;
  }

  pub movable_back : (q : PointId) (e w : ValueId) → IsMovable now (lent c f) q e w → IsMovable was f q e w
  movable_back q e w h =
      record { owned = owned_back w h.owned; unlent = unlent_back e w h.unlent; last = h.last; next = next_back q e w h.last h.next }

  -- ---- no copy stands where the borrow does

  pub none_there : (e w : ValueId) → IsCopy (lent c f) p e w → ⊥
  none_there e w h =
      let is = inst_at_lent c f p ∙ ap (option_map (lent_inst c)) r.copy.stands ∙ ap (λ i. Some i) (copy_lent d f p c v r) in
      let same : with_op op.BeginBorrow r.copy.inst ≡ h.inst = same_Some (with_op op.BeginBorrow r.copy.inst) h.inst (sym is ∙ h.stands) in
      let wrong : false ≡ true = ap (is_op op.CopyValue) same ∙ h.copies.copies in
      cc
