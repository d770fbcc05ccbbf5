-- A move of a copy of v changes for no other copy whether it can be a borrow, but for v itself and for the copies of v; and lets none be one.
use Rattle.std.proofs.Common.{◌≡◌, ◌≢◌, ◌⊎◌, inl, inr, ℕ, suc, ◌<◌, ◌≤◌, [], ◌∷◌, ◌++◌, length, refl, sym, ap, ap₂, ◌∙◌, subst, arith, Bool, true, false, Option, Some, None}
use Rattle.std.specs.Prelude.{◌||◌, ◌==◌, slice_get}
use Rattle.std.specs.List.{flat_map, list_any}
use Rattle.std.proofs.lemmas.Bool.{cases_eq, cases_lt, eq-eqb, eqb-true, false_from_ne_true, ne_eqb}
use Rattle.std.proofs.lemmas.List.{append-nil}
use Rattle.std.proofs.lemmas.Option.{same_Some, slice_get_within}
use Rattle.sil_verifier_trails.proofs.sil_verifier_values.Addresses.{addresses_of_lenders}
use Rattle.sil_verifier_trails.proofs.sil_verifier_values.Based.{lent_by_lenders, owned_own_bases}
use Rattle.sil_verifier_trails.specs.sil_verifier_values.inner.Bases.{IsLender}
use Rattle.sil_verifier_trails.specs.sil_verifier_values.inner.Known.{IsAcceptedBody, kind_at}
use Rattle.instruction_table.specs.declared.entries.Role.TheVariants as role
use Rattle.instruction_table.specs.declared.op.Op.TheVariants as op
use Rattle.sil_cfg_items.specs.Items.{item_defined, item_taken, taken_in}
use Rattle.sil_cfg_items.specs.Parts.{inst_at, inst_in, item_inst}
use Rattle.sil_cfg_items.specs.Roles.{by_row, taken_as}
use Rattle.ownership_kinds_chains.specs.OwnershipChains.Facts.{facts_with, has, is_owned, known_or}
use Rattle.ownership_kinds_chains.specs.declared.ownership_chains.facts.Facts.{Facts}
use Rattle.ownership_kinds_chains.specs.OwnershipMarks.Marks.{begun, ended, ended_by, ended_with, marks_of, marks_with, use_of, used, used_by, used_with}
use Rattle.ownership_kinds_chains.specs.declared.ownership_marks.mark.MarkSort.TheVariants.{Begin, End}
use Rattle.sil_ast.specs.declared.function.Block.{Block}
use Rattle.sil_ast.specs.declared.function.Function.{Function}
use Rattle.sil_ast.specs.declared.inst.Inst as inst
use Rattle.sil_ast.specs.declared.module.Module.{Module}
use Rattle.sil_ast.specs.declared.place.PointId.{PointId}
use Rattle.sil_ast.specs.declared.place.ValueId.{ValueId}
use Rattle.sil_cfg.specs.Items.{point_at}
use Rattle.sil_cfg.specs.declared.item.Item.TheVariants as item
use Rattle.sil_verifier_trails.specs.sil_verifier_accepted.AcceptedModules.inner.Checked.{IsVerified}
use Rattle.sil_types_declarations.specs.TypeDefinitions.Declarations.{declarations_of}
use Rattle.sil_types_declarations.specs.declared.type_definitions.kind.Kind.{Kind}
use Rattle.sil_types_declarations.specs.declared.type_definitions.kind.Kind.TheVariants as kind
use Rattle.copy_pairing_model.specs.Copies.{IsCopy}
use Rattle.copy_pairing_model.specs.Optimised.{facts_of}
use Rattle.copy_pairing_model.specs.Removable.{IsBorrowable, IsMovable, IsOnlyDestroyed, concerns, is_destroy, is_mark}
use Rattle.copy_pairing_acceptance.proofs.LentFunctions.Insts.{op_is}
use Rattle.copy_pairing_acceptance.proofs.LentFunctions.ValueRows.{same_value}
use Rattle.copy_pairing_acceptance.specs.MovedFunctions.inner.Structure.{old_item, old_point, stood_at}
use Rattle.copy_pairing_acceptance.proofs.MovedFunctions.InModule.{counted}
use Rattle.copy_pairing_acceptance.proofs.MovedFunctions.Items.{gone}
use Rattle.copy_pairing_acceptance.proofs.MovedFunctions.Lists.{stood_before, stood_behind}
use Rattle.copy_pairing_acceptance.proofs.MovedFunctions.Marks.{known, same_marks, takes_one}
use Rattle.copy_pairing_acceptance.proofs.MovedFunctions.Places.{after, inst_elsewhere, old_block, old_here, same_inst}
use Rattle.copy_pairing_acceptance.proofs.MovedFunctions.SameFacts.{borrows_are, copy_apart, copy_owned, destroy_makes_none, values_are}
use Rattle.copy_pairing_acceptance.proofs.MovedFunctions.Split.{IsSplit, split}
use Rattle.copy_pairing_acceptance.specs.RewritingOrder.inner.Laws.{MovingKeepsBorrowable, MovingKeepsValues, MovingLetsNoneBorrow, MovingMakesNoCopy}
use Rattle.copy_pairing_acceptance.proofs.RewritingOrder.Apart.{copies_apart, unbegun_at}
use Rattle.copy_pairing_acceptance.proofs.RewritingOrder.ItemsBack.{apart_by_index, copy_first, place_of, stood}
use Rattle.copy_pairing_acceptance.proofs.RewritingOrder.MovedBack.{borrowable, moving, none_there, same_facts}
use Rattle.copy_pairing_acceptance.proofs.RewritingOrder.Order.{same_point}
use Rattle.copy_pairing_acceptance.proofs.RewritingOrder.Turning.{ends_forth}

-- ---- an Owned value is a base of itself alone

not_owned : (w : ValueId) (o : Option Facts) → o ≡ Some (facts_with kind.Guaranteed (w ∷ [])) → (x : Facts) → o ≡ Some x → x.kind ≡ kind.Owned → ⊥
not_owned w o e x h k =
    let same : facts_with kind.Guaranteed (w ∷ []) ≡ x = same_Some (facts_with kind.Guaranteed (w ∷ [])) x (sym e ∙ h) in
    let wrong : kind.Guaranteed ≡ kind.Owned = ap (λ (z : Facts). z.kind) same ∙ k in
    cc

in_body : (f : Function) (p : PointId) (i : inst.Inst) → inst_at f p ≡ Some i → 0 < length f.blocks
in_body f p i e = at (slice_get f.blocks p.block.0) refl e
  where
    at : (o : Option Block) → slice_get f.blocks p.block.0 ≡ o → inst_in o p.index ≡ Some i → 0 < length f.blocks
    at None is h = absurd (let wrong : None ≡ Some i = h in cc)
    at (Some b) is h = let lt : p.block.0 < length f.blocks = slice_get_within f.blocks p.block.0 b is in omega arith

module _ (m : Module) (n : ℕ) (f : Function) (a : IsAcceptedBody m n f) (v : ValueId) (owned : is_owned (known_or (facts_of m f) v).kind ≡ true) where
  own_base : (w : ValueId) → has (known_or (facts_of m f) w).bases v.0 ≡ true → w ≡ v
  own_base w base = at (kind_at (declarations_of m) f w) refl
    where
      v_known : (x : Facts) × (facts_of m f v ≡ Some x) × (x.kind ≡ kind.Owned)
      v_known = known (facts_of m f v) owned

      no_lender : IsLender (declarations_of m) f v → ⊥
      no_lender h = not_owned v (facts_of m f v) h.facts v_known.0 v_known.1 v_known.2

      one : (b : Bool) → (b || false) ≡ true → b ≡ true
      one true e = refl
      one false e = e

      at : (k : Kind) → kind_at (declarations_of m) f w ≡ k → w ≡ v
      at kind.Owned e =
          let is = owned_own_bases m n f a w e in
          let bases : has (known_or (facts_of m f) w).bases v.0 ≡ ((w.0 == v.0) || false) =
          ap (λ (o : Option Facts). has (known_or (λ u. o) w).bases v.0) is in
          same_value w v (eqb-true w.0 v.0 (one (w.0 == v.0) (sym bases ∙ base)))
      at kind.Guaranteed e = absurd (no_lender (lent_by_lenders m n f a w v e base))
      at kind.Plain e = absurd (no_lender (addresses_of_lenders m n f a w v e base))

module _ (m : Module) (n : ℕ) (f : Function) (verified : IsVerified m) (in_module : slice_get m.functions n ≡ Some f) (p : PointId) (c v : ValueId)
    (copy : IsCopy f p c v) (movable : IsMovable (facts_of m f) f p c v) where
  abbrev last : ℕ
  last = movable.last

  abbrev s : IsSplit f p last c v
  s = split f p last c v copy movable.next.behind movable.next.destroyed

  abbrev facts : ValueId → Option Facts
  facts = facts_of m f

  -- a copy of v uses it
  uses : (x : PointId) (e : ValueId) → IsCopy f x e v → list_any (concerns c v) (marks_of facts f (item.Inst x)) ≡ true
  uses x e h =
      ap (λ ts. list_any (concerns c v) (marks_with facts ts (item_defined f (item.Inst x)))) taken
      ∙ ap₂ (λ xs ys. list_any (concerns c v) (((xs ++ []) ++ (ys ++ [])) ++ flat_map (begun facts) (item_defined f (item.Inst x)))) no_end a_use
      ∙ ap (λ b. (b || false) || list_any (concerns c v) (flat_map (begun facts) (item_defined f (item.Inst x)))) (eq-eqb h.copies.operand.value.0 v.0 (ap (λ (y : ValueId). y.0) h.copies.copied))
    where
      taken : item_taken f (item.Inst x) ≡ taken_as h.copies.operand (by_row role.Used) ∷ []
      taken =
          append-nil (taken_in (inst_at f x)) ∙ ap taken_in h.stands
          ∙ takes_one h.inst op.CopyValue role.Used h.copies.operand (op_is op.CopyValue h.inst h.copies.copies) refl refl h.copies.operands

      v_known : (y : Facts) × (facts v ≡ Some y) × (y.kind ≡ kind.Owned)
      v_known = known (facts v) movable.owned

      known_so : facts h.copies.operand.value ≡ Some v_known.0
      known_so = ap facts h.copies.copied ∙ v_known.1

      no_end : ended facts (taken_as h.copies.operand (by_row role.Used)) ≡ []
      no_end =
          ap (λ y. ended_with y (taken_as h.copies.operand (by_row role.Used))) known_so
          ∙ ap (λ k. ended_by k role.Used h.copies.operand.value) v_known.2

      a_use : used facts (taken_as h.copies.operand (by_row role.Used)) ≡ use_of h.copies.operand.value ∷ []
      a_use =
          ap (λ y. used_with y (taken_as h.copies.operand (by_row role.Used))) known_so
          ∙ ap (λ k. used_by k role.Used h.copies.operand.value v_known.0.bases) v_known.2

  module _ (q : PointId) (e w : ValueId) (here : IsCopy (after s) q e w) where
    elsewhere : q ≢ p
    elsewhere x = none_there m n f verified in_module p c v copy movable e w (subst (λ z. IsCopy (after s) z e w) x here)

    stood_here : IsCopy f (old_point p last q) e w
    stood_here = record { inst = here.inst; stands = sym (inst_elsewhere s q elsewhere) ∙ here.stands; copies = here.copies }

    old_apart : (old_point p last q).block.0 ≡ p.block.0 → (old_point p last q).index ≡ p.index → ⊥
    old_apart b k = at (cases_eq q.block.0 p.block.0)
      where
        at : (q.block.0 ≡ p.block.0) ⊎ (q.block.0 ≢ p.block.0) → ⊥
        at (inr ne) = ne (sym (old_block s q) ∙ b)
        at (inl same) = by (cases_lt q.index last)
          where
            index : stood_at last q.index ≡ p.index
            index = ap (λ (y : PointId). y.index) (sym (old_here s q same)) ∙ k

            by : (q.index < last) ⊎ (last ≤ q.index) → ⊥
            by (inl lt) = elsewhere (same_point q p same (sym (stood_before last q.index lt) ∙ index))
            by (inr le) =
                let first : p.index < last = copy_first s in
                let is : stood_at last q.index ≡ suc q.index = stood_behind last q.index le in
                let stood = index in
                omega arith

    apart : e.0 ≢ c.0
    apart = copies_apart f (counted m n f verified in_module) (old_point p last q) e w stood_here p (λ x y. old_apart (sym x) (sym y)) c v copy

    safe : has (known_or facts w).bases v.0 ≡ true → (k : ℕ) → p.index < k → k < last → list_any (is_mark Begin (e ∷ [])) (marks_of facts f (item.Inst (point_at p.block.0 k))) ≡ false
    safe base k past under =
        unbegun_at f (counted m n f verified in_module) (old_point p last q) e w stood_here facts (point_at p.block.0 k)
        (λ x y.
        let at : IsCopy f (point_at p.block.0 k) e w = subst (λ z. IsCopy f z e w) (same_point (old_point p last q) (point_at p.block.0 k) (sym x) (sym y)) stood_here in
        let body : IsAcceptedBody m n f = record { verified = verified; body = record { there = in_module; body = in_body f p copy.inst copy.stands } } in
        let of_v : IsCopy f (point_at p.block.0 k) e v = subst (λ z. IsCopy f (point_at p.block.0 k) e z) (own_base m n f body v movable.owned w base) at in
        let wrong : false ≡ true = sym (movable.next.quiet k past under) ∙ uses (point_at p.block.0 k) e of_v in
        absurd (cc))

    pub was_borrowable : IsBorrowable (facts_of m (after s)) (after s) e w → IsBorrowable facts f e w
    was_borrowable h =
        borrowable m n f verified in_module p c v copy movable e w apart safe
        (subst (λ fs. IsBorrowable fs (after s) e w) (same_facts m n f verified in_module p c v copy movable) h)

    module _ (other : e.0 ≢ v.0) (none : has (known_or facts w).bases v.0 ≡ false) where
      only_forth : IsOnlyDestroyed facts f e → IsOnlyDestroyed facts (after s) e
      only_forth h i there ended = at (place_of s i)
        where
          by : i ≢ item.Inst p → is_destroy (item_inst (after s) i) ≡ true
          by ne =
              ap is_destroy (same_inst s i ne)
              ∙ h (old_item p last i) (stood s i there ne) (ap (list_any (is_mark End (e ∷ []))) (sym (same_marks s facts i ne)) ∙ ended)

          at : (i ≡ item.Inst p) ⊎ ((i ≡ gone s) ⊎ ((i ≢ item.Inst p) × (i ≢ gone s))) → is_destroy (item_inst (after s) i) ≡ true
          at (inl x) =
              let nothing : list_any (is_mark End (e ∷ [])) (marks_of facts (after s) i) ≡ false =
              ap (λ j. list_any (is_mark End (e ∷ [])) (marks_of facts (after s) j)) x
              ∙ ap (list_any (is_mark End (e ∷ []))) (moving m n f verified in_module p c v copy movable)
              ∙ ap (λ b. (b || false) || (false || false)) (ne_eqb e.0 v.0 other) in
              absurd (let wrong : false ≡ true = sym nothing ∙ ended in cc)
          at (inr (inl x)) =
              by (λ y. apart_by_index (point_at p.block.0 last) p (λ k. let first : p.index < last = copy_first s in let no : ⊥ = omega arith in no) (sym x ∙ y))
          at (inr (inr (a, b))) = by a

      pub borrowable_forth : IsBorrowable facts f e w → IsBorrowable (facts_of m (after s)) (after s) e w
      borrowable_forth h =
          subst (λ fs. IsBorrowable fs (after s) e w) (sym (same_facts m n f verified in_module p c v copy movable))
          (record {
            destroyed = only_forth h.destroyed;
            bases_stay = ends_forth s facts movable.owned (copy_owned m n f verified in_module s) (destroy_makes_none m n f verified in_module s)
                (copy_apart m n f verified in_module s) movable.next.quiet e apart (known_or facts w).bases other none h.bases_stay;
          })

pub lets_none_borrow : MovingLetsNoneBorrow
lets_none_borrow m f p q c v e w i copy never h here b = was_borrowable m i.number f i.verified i.there p c v copy h q e w here b

pub keeps_borrowable : MovingKeepsBorrowable
keeps_borrowable m f p q c v e w i copy never h here other apart =
    (was_borrowable m i.number f i.verified i.there p c v copy h q e w here, borrowable_forth m i.number f i.verified i.there p c v copy h q e w here other none)
  where
    body : IsAcceptedBody m i.number f
    body = record { verified = i.verified; body = record { there = i.there; body = in_body f p copy.inst copy.stands } }

    none : has (known_or (facts_of m f) w).bases v.0 ≡ false
    none = false_from_ne_true (has (known_or (facts_of m f) w).bases v.0) (λ base. apart (ap (λ (x : ValueId). x.0) (own_base m i.number f body v h.owned w base)))

pub makes_no_copy : MovingMakesNoCopy
makes_no_copy m f p q c v e w i copy h here = (old_point p h.last q, stood_here m i.number f i.verified i.there p c v copy h q e w here)

pub keeps_values : MovingKeepsValues
keeps_values m f p c v i copy h =
    let s : IsSplit f p h.last c v = split f p h.last c v copy h.next.behind h.next.destroyed in
    record {
      values = values_are m i.number f i.verified i.there s;
      facts = same_facts m i.number f i.verified i.there p c v copy h;
      borrows = borrows_are m i.number f i.verified i.there s;
    }
