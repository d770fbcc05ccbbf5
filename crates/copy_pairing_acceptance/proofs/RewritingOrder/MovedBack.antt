-- What lets a copy go that comes before the move, let it go before the move was made.
use Rattle.std.proofs.Common.{◌≡◌, ◌≢◌, ◌⊎◌, inl, inr, ℕ, suc, ◌-◌, ◌<◌, ◌≤◌, [], ◌∷◌, length, sym, ap, ap₂, ◌∙◌, subst, arith, true, false, Option, Some}
use Rattle.std.specs.Prelude.{◌||◌, ◌==◌, IsSomeAnd, slice_get}
use Rattle.std.specs.List.{list_any}
use Rattle.std.proofs.lemmas.Bool.{cases_eq, cases_lt, eq-eqb, or_parts}
use Rattle.std.proofs.lemmas.Option.{same_Some}
use Rattle.sil_verifier_trails.specs.borrow_scopes.Scopes.{bases_in, lent_bases}
use Rattle.instruction_table.specs.declared.op.Op.TheVariants as op
use Rattle.sil_cfg_items.specs.Parts.{inst_at, item_inst}
use Rattle.ownership_kinds_chains.specs.OwnershipChains.Facts.{facts_with, has, known_or}
use Rattle.ownership_kinds_chains.specs.declared.ownership_chains.facts.Facts.{Facts}
use Rattle.ownership_kinds_chains.specs.OwnershipMarks.Marks.{begin_of, end_of, marks_of, use_of}
use Rattle.ownership_kinds_chains.specs.declared.ownership_marks.mark.MarkSort.TheVariants.{Begin, End}
use Rattle.sil_ast.specs.declared.function.Function.{Function}
use Rattle.sil_ast.specs.declared.module.Module.{Module}
use Rattle.sil_ast.specs.declared.place.PointId.{PointId}
use Rattle.sil_ast.specs.declared.place.ValueId.{ValueId}
use Rattle.sil_cfg.specs.Items.{IsItem, point_at}
use Rattle.sil_cfg.specs.declared.item.Item.TheVariants as item
use Rattle.sil_verifier_trails.specs.sil_verifier_accepted.AcceptedModules.inner.Checked.{IsVerified}
use Rattle.sil_types_declarations.specs.declared.type_definitions.kind.Kind.TheVariants as kind
use Rattle.numbered_form.specs.ValueTables.Borrows.{lent_in}
use Rattle.copy_pairing_model.specs.Copies.{IsCopy, IsDestroy, is_op}
use Rattle.copy_pairing_model.specs.Optimised.{facts_of}
use Rattle.copy_pairing_model.specs.Removable.{IsBorrowable, IsDestroyedNext, IsMovable, IsOnlyDestroyed, IsUnlent, concerns, is_destroy, is_mark}
use Rattle.copy_pairing_acceptance.specs.MovedFunctions.inner.Structure.{old_point, stood_at}
use Rattle.copy_pairing_acceptance.proofs.MovedFunctions.InModule.{counted}
use Rattle.copy_pairing_acceptance.proofs.MovedFunctions.Items.{gone, size_behind}
use Rattle.copy_pairing_acceptance.proofs.MovedFunctions.Lists.{stood_before, stood_behind}
use Rattle.copy_pairing_acceptance.proofs.MovedFunctions.Marks.{copy_marks, gone_marks, move_marks, same_marks}
use Rattle.copy_pairing_acceptance.proofs.MovedFunctions.Places.{after, block_there, destroy_stood, inst_elsewhere, inst_there, new_block, old_elsewhere, old_here, same_inst}
use Rattle.copy_pairing_acceptance.proofs.MovedFunctions.SameFacts.{borrows_are, copy_apart, copy_owned, destroy_makes_none, facts_are}
use Rattle.copy_pairing_acceptance.proofs.MovedFunctions.Split.{IsSplit, move_of, split}
use Rattle.copy_pairing_acceptance.proofs.RewritingOrder.Apart.{copies_apart, unbegun_at}
use Rattle.copy_pairing_acceptance.proofs.RewritingOrder.ItemsBack.{apart_by_block, apart_by_index, copy_first, left, place_of}
use Rattle.copy_pairing_acceptance.proofs.RewritingOrder.Order.{IsBefore, KeepsBefore}
use Rattle.copy_pairing_acceptance.proofs.RewritingOrder.Turning.{begins_free, ends_free}

module _ (m : Module) (n : ℕ) (f : Function) (verified : IsVerified m) (in_module : slice_get m.functions n ≡ Some f) (p : PointId) (c v : ValueId)
    (copy : IsCopy f p c v) (movable : IsMovable (facts_of m f) f p c v) where
  abbrev last : ℕ
  last = movable.last

  abbrev s : IsSplit f p last c v
  s = split f p last c v copy movable.next.behind movable.next.destroyed

  abbrev facts : ValueId → Option Facts
  facts = facts_of m f

  pub same_facts : facts_of m (after s) ≡ facts
  same_facts = facts_are m n f verified in_module s

  owned : facts c ≡ Some (facts_with kind.Owned (c ∷ []))
  owned = copy_owned m n f verified in_module s

  pub moving : marks_of facts (after s) (item.Inst p) ≡ end_of v ∷ begin_of c ∷ []
  moving = move_marks s facts movable.owned owned

  copying : marks_of facts f (item.Inst p) ≡ use_of v ∷ begin_of c ∷ []
  copying = copy_marks s facts movable.owned owned

  going : marks_of facts f (gone s) ≡ end_of v ∷ []
  going = gone_marks s facts movable.owned owned (destroy_makes_none m n f verified in_module s)

  pub none_there : (e w : ValueId) → IsCopy (after s) p e w → ⊥
  none_there e w h =
      let same : move_of s.copy ≡ h.inst = same_Some (move_of s.copy) h.inst (sym (inst_there s) ∙ h.stands) in
      let wrong : false ≡ true = ap (is_op op.CopyValue) same ∙ h.copies.copies in
      cc

  no_destroy_there : (w : ValueId) → IsDestroy (after s) p w → ⊥
  no_destroy_there w h =
      let same : move_of s.copy ≡ h.inst = same_Some (move_of s.copy) h.inst (sym (inst_there s) ∙ h.stands) in
      let wrong : false ≡ true = ap (is_op op.DestroyValue) same ∙ h.destroys.destroys in
      cc

  -- ---- points before the move

  stays_put : (q : PointId) → IsBefore q p → old_point p last q ≡ q
  stays_put q (inl lt) = old_elsewhere s q (λ e. let no : ⊥ = omega arith in no)
  stays_put q (inr (same, lt)) =
      let first : p.index < last = copy_first s in
      old_here s q same ∙ ap (point_at q.block.0) (stood_before last q.index (omega arith))

  apart : (q : PointId) → IsBefore q p → q.block.0 ≡ p.block.0 → q.index ≡ p.index → ⊥
  apart q (inl lt) e k = omega arith
  apart q (inr (same, lt)) e k = omega arith

  behind : (q : PointId) → IsBefore q p → (k : ℕ) → p.index < k → p.block.0 ≡ q.block.0 → k ≡ q.index → ⊥
  behind q (inl lt) k past e same = omega arith
  behind q (inr (here, lt)) k past e same = omega arith

  copy_back : (q : PointId) (e w : ValueId) → IsBefore q p → IsCopy (after s) q e w → IsCopy f q e w
  copy_back q e w before h = record {
    inst = h.inst;
    stands = sym (inst_elsewhere s q (λ x. apart q before (ap (λ (y : PointId). y.block.0) x) (ap (λ (y : PointId). y.index) x)) ∙ ap (inst_at f) (stays_put q before)) ∙ h.stands;
    copies = h.copies;
  }

  -- ---- as a borrow

  module _ (e w : ValueId) (e_apart : e.0 ≢ c.0) where
    abbrev pub IsUnbegunBetween : Type 0
    IsUnbegunBetween = (k : ℕ) → p.index < k → k < last → list_any (is_mark Begin (e ∷ [])) (marks_of facts f (item.Inst (point_at p.block.0 k))) ≡ false

    module _ (safe : has (known_or facts w).bases v.0 ≡ true → IsUnbegunBetween) (h : IsBorrowable facts (after s) e w) where
      move_is_item : IsItem (after s) (item.Inst p)
      move_is_item =
          let first : p.index < last = copy_first s in
          let size : last ≤ length (new_block s).insts = size_behind s in
          subst (λ o. IsSomeAnd o (λ block. p.index < length block.insts)) (sym (block_there s)) (let lt : p.index < length (new_block s).insts = omega arith in lt)

      other : e.0 ≢ v.0
      other same =
          let ends : list_any (is_mark End (e ∷ [])) (marks_of facts (after s) (item.Inst p)) ≡ true =
          ap (list_any (is_mark End (e ∷ []))) moving ∙ ap (λ b. (b || false) || (false || false)) (eq-eqb e.0 v.0 same) in
          let wrong : false ≡ true = sym (ap is_destroy (inst_there s)) ∙ h.destroyed (item.Inst p) move_is_item ends in
          cc

      only_back : IsOnlyDestroyed facts f e
      only_back i there ended = at (place_of s i)
        where
          at : (i ≡ item.Inst p) ⊎ ((i ≡ gone s) ⊎ ((i ≢ item.Inst p) × (i ≢ gone s))) → is_destroy (item_inst f i) ≡ true
          at (inl x) =
              let none : list_any (is_mark End (e ∷ [])) (marks_of facts f i) ≡ false =
              ap (λ j. list_any (is_mark End (e ∷ [])) (marks_of facts f j)) x ∙ ap (list_any (is_mark End (e ∷ []))) copying in
              absurd (let wrong : false ≡ true = sym none ∙ ended in cc)
          at (inr (inl x)) = ap (λ j. is_destroy (item_inst f j)) x ∙ ap is_destroy (destroy_stood s) ∙ s.destroys.destroys
          at (inr (inr (a, b))) =
              let l = left s i there a b in
              let marks = same_marks s facts l.now l.apart ∙ ap (marks_of facts f) l.was in
              ap (λ j. is_destroy (item_inst f j)) (sym l.was) ∙ ap is_destroy (sym (same_inst s l.now l.apart))
              ∙ h.destroyed l.now l.there (ap (list_any (is_mark End (e ∷ []))) marks ∙ ended)

      pub borrowable : IsBorrowable facts f e w
      borrowable = record {
        destroyed = only_back;
        bases_stay = ends_free s facts movable.owned owned (destroy_makes_none m n f verified in_module s) (copy_apart m n f verified in_module s) movable.next.quiet
            e e_apart (known_or facts w).bases other safe h.bases_stay;
      }

  module _ (q : PointId) (e w : ValueId) (before : IsBefore q p) (here : IsCopy f q e w) where
    e_apart : e.0 ≢ c.0
    e_apart = copies_apart f (counted m n f verified in_module) q e w here p (λ x y. apart q before (sym x) (sym y)) c v copy

    unbegun : (k : ℕ) → p.index < k → k < last → list_any (is_mark Begin (e ∷ [])) (marks_of facts f (item.Inst (point_at p.block.0 k))) ≡ false
    unbegun k past under = unbegun_at f (counted m n f verified in_module) q e w here facts (point_at p.block.0 k) (behind q before k past)

    -- ---- as a move

    module _ (h : IsMovable facts (after s) q e w) where
      lent_same : (u : ValueId) → has (lent_bases (after s) (known_or facts) u.0) w.0 ≡ has (lent_bases f (known_or facts) u.0) w.0
      lent_same u = ap (λ bs. has (bases_in (known_or facts) (lent_in bs u.0)) w.0) (borrows_are m n f verified in_module s)

      unlent : IsUnlent facts f e w
      unlent u lent_so =
          begins_free s facts movable.owned owned (destroy_makes_none m n f verified in_module s) (copy_apart m n f verified in_module s) movable.next.quiet
          e e_apart unbegun u (h.unlent u (lent_same u ∙ lent_so))

      abbrev Quiet : ℕ → Type 0
      Quiet k = list_any (concerns e w) (marks_of facts f (item.Inst (point_at q.block.0 k))) ≡ false

      -- in another block
      elsewhere : q.block.0 ≢ p.block.0 → IsDestroyedNext facts f q e w h.last
      elsewhere ne = record {
        behind = h.next.behind;
        destroyed = record {
          inst = h.next.destroyed.inst;
          stands = sym (inst_elsewhere s (point_at q.block.0 h.last) (λ x. ne (ap (λ (y : PointId). y.block.0) x)) ∙ ap (inst_at f) (old_elsewhere s (point_at q.block.0 h.last) ne))
              ∙ h.next.destroyed.stands;
          destroys = h.next.destroyed.destroys;
        };
        quiet = λ k past under.
            ap (list_any (concerns e w))
            (sym (same_marks s facts (item.Inst (point_at q.block.0 k)) (apart_by_block (point_at q.block.0 k) p ne)
            ∙ ap (λ x. marks_of facts f (item.Inst x)) (old_elsewhere s (point_at q.block.0 k) ne)))
            ∙ h.next.quiet k past under;
      }

      -- in the same block
      module _ (same : q.block.0 ≡ p.block.0) (lt : q.index < p.index) where
        there : (k : ℕ) → k ≢ p.index → marks_of facts (after s) (item.Inst (point_at q.block.0 k)) ≡ marks_of facts f (item.Inst (point_at q.block.0 (stood_at last k)))
        there k ne =
            same_marks s facts (item.Inst (point_at q.block.0 k)) (apart_by_index (point_at q.block.0 k) p ne)
            ∙ ap (λ x. marks_of facts f (item.Inst x)) (old_here s (point_at q.block.0 k) same)

        at_p : (g : Function) → marks_of facts g (item.Inst (point_at q.block.0 p.index)) ≡ marks_of facts g (item.Inst p)
        at_p g = ap (λ b. marks_of facts g (item.Inst (point_at b p.index))) same

        not_p : h.last ≢ p.index
        not_p k = no_destroy_there w (subst (λ x. IsDestroy (after s) x w) (ap₂ point_at same k) h.next.destroyed)

        at_move : p.index < h.last → list_any (concerns e w) (end_of v ∷ begin_of c ∷ []) ≡ false
        at_move past = ap (list_any (concerns e w)) (sym (at_p (after s) ∙ moving)) ∙ h.next.quiet p.index lt past

        copy_quiet : p.index < h.last → Quiet p.index
        copy_quiet past =
            let parts = or_parts (concerns e w (end_of v)) (list_any (concerns e w) (begin_of c ∷ [])) (at_move past) in
            let own = or_parts (v.0 == w.0) (is_mark End (e ∷ []) (end_of v)) parts.0 in
            ap (list_any (concerns e w)) (at_p f ∙ copying) ∙ ap₂ (λ a b. (a || false) || b) own.0 parts.1

        gone_quiet : p.index < h.last → Quiet last
        gone_quiet past =
            let parts = or_parts (concerns e w (end_of v)) (list_any (concerns e w) (begin_of c ∷ [])) (at_move past) in
            ap (λ b. list_any (concerns e w) (marks_of facts f (item.Inst (point_at b last)))) same
            ∙ ap (list_any (concerns e w)) going ∙ ap (λ b. b || false) parts.0

        first : p.index < last
        first = copy_first s

        -- the destroy stands at the same index, or at the next one
        place : (h.last < last) × (stood_at last h.last ≡ h.last) ⊎ (last ≤ h.last) × (stood_at last h.last ≡ suc h.last)
        place = at (cases_lt h.last last)
          where
            at : (h.last < last) ⊎ (last ≤ h.last) → (h.last < last) × (stood_at last h.last ≡ h.last) ⊎ (last ≤ h.last) × (stood_at last h.last ≡ suc h.last)
            at (inl a) = inl (a, stood_before last h.last a)
            at (inr a) = inr (a, stood_behind last h.last a)

        before_gone : (k : ℕ) → q.index < k → k < h.last → k < last → k ≢ p.index → Quiet k
        before_gone k past under a ne =
            ap (list_any (concerns e w))
            (ap (λ j. marks_of facts f (item.Inst (point_at q.block.0 j))) (sym (stood_before last k a)) ∙ sym (there k ne))
            ∙ h.next.quiet k past under

        behind_gone : (k : ℕ) → last ≤ k → k < h.last → Quiet (suc k)
        behind_gone k a under =
            ap (list_any (concerns e w))
            (ap (λ j. marks_of facts f (item.Inst (point_at q.block.0 j))) (sym (stood_behind last k a)) ∙ sym (there k (λ x. let z = first in let no : ⊥ = omega arith in no)))
            ∙ h.next.quiet k (let z = first in omega arith) under

        quiet : (k : ℕ) → q.index < k → k < stood_at last h.last → Quiet k
        quiet k past under = by place
          where
            by : (h.last < last) × (stood_at last h.last ≡ h.last) ⊎ (last ≤ h.last) × (stood_at last h.last ≡ suc h.last) → Quiet k
            by (inl (a, is)) = at (cases_eq k p.index)
              where
                at : (k ≡ p.index) ⊎ (k ≢ p.index) → Quiet k
                at (inl x) = subst Quiet (sym x) (copy_quiet (omega arith))
                at (inr x) = before_gone k past (omega arith) (omega arith) x
            by (inr (a, is)) = at (cases_eq k p.index) (cases_eq k last) (cases_lt k last)
              where
                at : (k ≡ p.index) ⊎ (k ≢ p.index) → (k ≡ last) ⊎ (k ≢ last) → (k < last) ⊎ (last ≤ k) → Quiet k
                at (inl x) y z = subst Quiet (sym x) (copy_quiet (let o = first in omega arith))
                at (inr x) (inl y) z = subst Quiet (sym y) (gone_quiet (let o = first in omega arith))
                at (inr x) (inr y) (inl z) = before_gone k past (omega arith) z x
                at (inr x) (inr y) (inr z) =
                    let back : suc (k - 1) ≡ k = omega arith in
                    subst Quiet back (behind_gone (k - 1) (omega arith) (omega arith))

        further : q.index < stood_at last h.last
        further = by place
          where
            by : (h.last < last) × (stood_at last h.last ≡ h.last) ⊎ (last ≤ h.last) × (stood_at last h.last ≡ suc h.last) → q.index < stood_at last h.last
            by (inl (a, is)) = let b : q.index < h.last = h.next.behind in omega arith
            by (inr (a, is)) = let b : q.index < h.last = h.next.behind in omega arith

        here_next : IsDestroyedNext facts f q e w (stood_at last h.last)
        here_next = record {
          behind = further;
          destroyed = record {
            inst = h.next.destroyed.inst;
            stands = sym (inst_elsewhere s (point_at q.block.0 h.last) (λ x. not_p (ap (λ (y : PointId). y.index) x)) ∙ ap (inst_at f) (old_here s (point_at q.block.0 h.last) same))
                ∙ h.next.destroyed.stands;
            destroys = h.next.destroyed.destroys;
          };
          quiet = quiet;
        }

      pub moves_so : IsMovable facts f q e w
      moves_so = at before
        where
          at : IsBefore q p → IsMovable facts f q e w
          at (inl lt) = record { owned = h.owned; unlent = unlent; last = h.last; next = elsewhere (λ x. let no : ⊥ = omega arith in no) }
          at (inr (same, lt)) = record { owned = h.owned; unlent = unlent; last = stood_at last h.last; next = here_next same lt }

  pub moved_keeps : KeepsBefore m p f (after s)
  moved_keeps = record {
    none_there = none_there;
    copies = copy_back;
    borrowable = λ q e w before here h.
        let old = copy_back q e w before here in
        borrowable e w (e_apart q e w before old) (λ base. unbegun q e w before old) (subst (λ fs. IsBorrowable fs (after s) e w) same_facts h);
    movable = λ q e w before here h. moves_so q e w before (copy_back q e w before here) (subst (λ fs. IsMovable fs (after s) q e w) same_facts h);
  }
