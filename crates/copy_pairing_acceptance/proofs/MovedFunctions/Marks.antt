-- The marks of items: those of the old ones, but for the move, which ends what the copy used, and for the gone destroy, which ended it.
use Rattle.std.proofs.Common.{◌≡◌, ◌≢◌, ℕ, List, [], ◌∷◌, ◌++◌, length, refl, ap, ap₂, ◌∙◌, append-nil, true, false, cond, Option, Some, None}
use Rattle.std.specs.Prelude.{unwrap_or}
use Rattle.std.specs.List.{flat_map}
use Rattle.instruction_table.specs.Forms.{roles_of}
use Rattle.instruction_table.specs.declared.entries.Role.{Role}
use Rattle.instruction_table.specs.declared.entries.Role.TheVariants as role
use Rattle.instruction_table.specs.declared.op.Op.{Op}
use Rattle.instruction_table.specs.declared.op.Op.TheVariants as op
use Rattle.sil_ast.specs.declared.function.Function.{Function}
use Rattle.sil_ast.specs.declared.inst.Inst as inst
use Rattle.sil_ast.specs.declared.operands.Operand.{Operand}
use Rattle.sil_ast.specs.declared.place.PointId.{PointId}
use Rattle.sil_ast.specs.declared.place.ValueId.{ValueId}
use Rattle.sil_cfg.specs.declared.item.Item.{Item}
use Rattle.sil_cfg.specs.declared.item.Item.TheVariants as item
use Rattle.sil_cfg_items.specs.Parts.{results_in}
use Rattle.sil_cfg_items.specs.Items.{item_defined, item_taken, taken_in}
use Rattle.sil_cfg_items.specs.Roles.{by_row, conventions_in, roles_for, taken_as, taken_by, taken_each}
use Rattle.sil_cfg_items.specs.declared.taken.Taken.{Taken}
use Rattle.sil_types_declarations.specs.declared.type_definitions.kind.Kind.{Kind}
use Rattle.sil_types_declarations.specs.declared.type_definitions.kind.Kind.TheVariants as kind
use Rattle.ownership_kinds_chains.specs.OwnershipChains.Facts.{facts_with, is_owned, known_or}
use Rattle.ownership_kinds_chains.specs.declared.ownership_chains.facts.Facts.{Facts}
use Rattle.ownership_kinds_chains.specs.OwnershipMarks.Marks.{begin_of, begun, begun_with, end_of, ended, ended_by, ended_with, ends_owned, marks_of, marks_with, use_of, used, used_by, used_with}
use Rattle.copy_pairing_acceptance.specs.MovedFunctions.inner.Structure.{old_item}
use Rattle.copy_pairing_acceptance.proofs.MovedFunctions.Items.{gone}
use Rattle.copy_pairing_acceptance.proofs.MovedFunctions.Places.{after, copy_stood, destroy_stood, inst_there, same_defined, same_taken}
use Rattle.copy_pairing_acceptance.proofs.MovedFunctions.Split.{IsSplit, move_of}
use Rattle.copy_pairing_acceptance.proofs.MovedFunctions.TheCopy.{copy_op, destroy_op}

-- ---- the one operand of an Owned value

module _ (o : Option Facts) (owned : is_owned (unwrap_or o (facts_with kind.Plain [])).kind ≡ true) where
  pub known : (x : Facts) × (o ≡ Some x) × (x.kind ≡ kind.Owned)
  known = at o owned
    where
      kind_is : (k : Kind) → is_owned k ≡ true → k ≡ kind.Owned
      kind_is kind.Owned e = refl
      kind_is kind.Guaranteed e = absurd (let no : false ≡ true = e in cc)
      kind_is kind.Plain e = absurd (let no : false ≡ true = e in cc)

      at : (y : Option Facts) → is_owned (unwrap_or y (facts_with kind.Plain [])).kind ≡ true → (x : Facts) × (y ≡ Some x) × (x.kind ≡ kind.Owned)
      at None e = absurd (let no : false ≡ true = e in cc)
      at (Some x) e = (x, refl, kind_is x.kind e)

  ended_so : (t : Taken) → ended_with o t ≡ cond (ends_owned t.role) (end_of t.value ∷ []) []
  ended_so t = ap (λ y. ended_with y t) known.1 ∙ ap (λ k. ended_by k t.role t.value) known.2

  used_so : (t : Taken) → used_with o t ≡ cond (ends_owned t.role) [] (use_of t.value ∷ [])
  used_so t = ap (λ y. used_with y t) known.1 ∙ ap (λ k. used_by k t.role t.value known.0.bases) known.2

-- what an instruction takes whose row has one role and which has one operand
pub takes_one : (i : inst.Inst) (o : Op) (r : Role) (x : Operand) → i.op ≡ o → roles_of o ≡ r ∷ [] → roles_for (r ∷ []) (conventions_in i) 1 ≡ by_row r ∷ [] → i.operands ≡ x ∷ []
    → taken_by i ≡ taken_as x (by_row r) ∷ []
takes_one i o r x is roles row operands =
    ap₂ (λ (ops : List Operand) (w : Op). taken_each ops (roles_for (roles_of w) (conventions_in i) (length ops))) operands is
    ∙ ap (λ rs. taken_each (x ∷ []) (roles_for rs (conventions_in i) 1)) roles ∙ ap (taken_each (x ∷ [])) row

module _ {f : Function} {p : PointId} {last : ℕ} {c v : ValueId} (s : IsSplit f p last c v) where
  -- ---- what is taken and made there

  pub copy_takes : item_taken f (item.Inst p) ≡ taken_as s.copies.operand (by_row role.Used) ∷ []
  copy_takes =
      ap (λ o. taken_in o ++ []) (copy_stood s) ∙ append-nil (taken_by s.copy)
      ∙ takes_one s.copy op.CopyValue role.Used s.copies.operand (copy_op s) refl refl s.copies.operands

  pub move_takes : item_taken (after s) (item.Inst p) ≡ taken_as s.copies.operand (by_row role.Consumed) ∷ []
  move_takes =
      ap (λ o. taken_in o ++ []) (inst_there s) ∙ append-nil (taken_by (move_of s.copy))
      ∙ takes_one (move_of s.copy) op.MoveValue role.Consumed s.copies.operand refl refl refl s.copies.operands

  pub destroy_takes : item_taken f (gone s) ≡ taken_as s.destroys.operand (by_row role.Consumed) ∷ []
  destroy_takes =
      ap (λ o. taken_in o ++ []) (destroy_stood s) ∙ append-nil (taken_by s.destroy)
      ∙ takes_one s.destroy op.DestroyValue role.Consumed s.destroys.operand (destroy_op s) refl refl s.destroys.operands

  pub copy_defines : item_defined f (item.Inst p) ≡ c ∷ []
  copy_defines = ap (λ o. results_in o ++ []) (copy_stood s) ∙ ap (λ rs. rs ++ []) s.copies.result

  pub move_defines : item_defined (after s) (item.Inst p) ≡ c ∷ []
  move_defines = ap (λ o. results_in o ++ []) (inst_there s) ∙ ap (λ rs. rs ++ []) s.copies.result

  pub destroy_defines : s.destroy.results ≡ [] → item_defined f (gone s) ≡ []
  destroy_defines none = ap (λ o. results_in o ++ []) (destroy_stood s) ∙ ap (λ rs. rs ++ []) none

  -- ---- marks

  module _ (facts : ValueId → Option Facts) where
    pub same_marks : (i : Item) → i ≢ item.Inst p → marks_of facts (after s) i ≡ marks_of facts f (old_item p last i)
    same_marks i ne = ap₂ (marks_with facts) (same_taken s i ne) (same_defined s i ne)

    module _ (v_owned : is_owned (known_or facts v).kind ≡ true) (c_owned : facts c ≡ Some (facts_with kind.Owned (c ∷ []))) where
      begins : begun facts c ≡ begin_of c ∷ []
      begins = ap (λ o. begun_with o c) c_owned

      of_operand : (x : Operand) → x.value ≡ v → is_owned (known_or facts x.value).kind ≡ true
      of_operand x e = ap (λ w. is_owned (known_or facts w).kind) e ∙ v_owned

      taken_marks : (x : Operand) (r : Role) → x.value ≡ v → (defined : List ValueId) → marks_with facts (taken_as x (by_row r) ∷ []) defined
          ≡ (cond (ends_owned r) (end_of v ∷ []) [] ++ cond (ends_owned r) [] (use_of v ∷ [])) ++ flat_map (begun facts) defined
      taken_marks x r e defined =
          ap₂ (λ a b. (a ++ b) ++ flat_map (begun facts) defined)
          (append-nil (ended facts (taken_as x (by_row r))) ∙ ended_so (facts x.value) (of_operand x e) (taken_as x (by_row r)) ∙ ap (λ w. cond (ends_owned r) (end_of w ∷ []) []) e)
          (append-nil (used facts (taken_as x (by_row r))) ∙ used_so (facts x.value) (of_operand x e) (taken_as x (by_row r)) ∙ ap (λ w. cond (ends_owned r) [] (use_of w ∷ [])) e)

      pub copy_marks : marks_of facts f (item.Inst p) ≡ use_of v ∷ begin_of c ∷ []
      copy_marks =
          ap₂ (marks_with facts) copy_takes copy_defines ∙ taken_marks s.copies.operand role.Used s.copies.copied (c ∷ []) ∙ ap (λ xs. use_of v ∷ (xs ++ [])) begins

      pub move_marks : marks_of facts (after s) (item.Inst p) ≡ end_of v ∷ begin_of c ∷ []
      move_marks =
          ap₂ (marks_with facts) move_takes move_defines ∙ taken_marks s.copies.operand role.Consumed s.copies.copied (c ∷ []) ∙ ap (λ xs. end_of v ∷ (xs ++ [])) begins

      pub gone_marks : s.destroy.results ≡ [] → marks_of facts f (gone s) ≡ end_of v ∷ []
      gone_marks none =
          ap₂ (marks_with facts) destroy_takes (destroy_defines none) ∙ taken_marks s.destroys.operand role.Consumed s.destroys.destroyed []
