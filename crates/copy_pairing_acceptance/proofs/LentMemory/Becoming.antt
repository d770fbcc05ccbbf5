-- What an instruction does to memory where a copy is lent.
use Rattle.std.proofs.Common.{◌≡◌, List, [], ◌∷◌, ◌++◌, length, map, refl, sym, ap, ap₂, ◌∙◌, subst, true, false, cond, Some}
use Rattle.std.specs.Prelude.{flat_map}
use Rattle.instruction_table.specs.Forms.{roles_of}
use Rattle.instruction_table.specs.declared.entries.Role.{Role}
use Rattle.instruction_table.specs.declared.entries.Role.TheVariants as role
use Rattle.instruction_table.specs.declared.op.Op.{Op}
use Rattle.instruction_table.specs.declared.op.Op.TheVariants as op
use Rattle.sil_cfg_items.specs.Roles.{by_row, conventions_in, roles_for, taken_as, taken_by, taken_each}
use Rattle.sil_verifier_trails.specs.memory_rules_accesses.Accesses.{allowance_of, made, made_by, mentioned, mentions_of}
use Rattle.sil_verifier_trails.specs.memory_rules_accesses.Operations.{access_kind_of, addresses_of, deallocates, deallocates_by, operated_at, operations_of}
use Rattle.sil_verifier_trails.specs.memory_rules_accesses.declared.access.Access.{Access}
use Rattle.sil_verifier_trails.specs.memory_rules_accesses.declared.access.Access.TheVariants.{Mentions}
use Rattle.sil_verifier_trails.specs.memory_rules_accesses.declared.columns.Allowance.TheVariants.{BuildingBorrow, FreshObject, NeitherOfThem}
use Rattle.sil_verifier_trails.specs.memory_rules_accesses.declared.source.Source.{Source}
use Rattle.sil_ast.specs.declared.inst.Inst.{Inst}
use Rattle.sil_ast.specs.declared.operands.Operand.{Operand}
use Rattle.sil_ast.specs.declared.place.ValueId.{ValueId}
use Rattle.copy_pairing_model.specs.Rewritten.{lent_inst, makes, takes, with_op}
use Rattle.copy_pairing_acceptance.proofs.LentFunctions.Insts.{Becomes, becomes, borrows, ends, stays}
use Rattle.copy_pairing_acceptance.proofs.LentMemory.Means.{AreAlike, copied, destroyed, same}
use Rattle.copy_pairing_acceptance.proofs.LentMemory.Sources.{AreLentSources, told_alike}
use Rattle.copy_pairing_acceptance.proofs.LentMemory.Statics.{DoesAlike}

-- ---- lists of accesses

pub alike_same : (c v : ValueId) (xs : List Access) → AreAlike c v xs xs
alike_same c v [] = tt
alike_same c v (x ∷ xs) = (same x, alike_same c v xs)

pub alike_equal : (c v : ValueId) (xs ys : List Access) → ys ≡ xs → AreAlike c v xs ys
alike_equal c v xs ys e = subst (λ zs. AreAlike c v xs zs) (sym e) (alike_same c v xs)

pub alike_append : (c v : ValueId) (xs ys ps qs : List Access) → AreAlike c v xs ys → AreAlike c v ps qs → AreAlike c v (xs ++ ps) (ys ++ qs)
alike_append c v [] [] ps qs h k = k
alike_append c v [] (y ∷ ys) ps qs h k = absurd h
alike_append c v (x ∷ xs) [] ps qs h k = absurd h
alike_append c v (x ∷ xs) (y ∷ ys) ps qs h k = (h.0, alike_append c v xs ys ps qs h.1 k)

-- what is made is made
pub made_alike : (S T : List Source) (c v : ValueId) → AreLentSources S T c v → (ws : List ValueId) → flat_map (made T) ws ≡ flat_map (made S) ws
made_alike S T c v h ws = ap (λ (one : ValueId → List Access). flat_map one ws) (λ i w. told_alike S T c v h (made_by w) refl w i)

-- ---- an instruction with one operand

-- what it takes, where its row has one role
pub taken_one : (i : Inst) (o : Operand) (x : Op) (r : Role) → i.operands ≡ o ∷ [] → i.op ≡ x → roles_for (roles_of x) (conventions_in i) 1 ≡ by_row r ∷ [] → taken_by i ≡ taken_as o (by_row r) ∷ []
taken_one i o x r operands is row =
    ap₂ (λ os (y : Op). taken_each os (roles_for (roles_of y) (conventions_in i) (length os))) operands is
    ∙ ap (taken_each (o ∷ [])) row

-- by its row it does nothing to a location, and deallocates nothing
module _ (i : Inst) (o : Operand) (x : Op) (r : Role) (is : i.op ≡ x) (taken : taken_by i ≡ taken_as o (by_row r) ∷ []) where
  does_none : flat_map (operated_at (access_kind_of x) i.qualifier) (taken_as o (by_row r) ∷ []) ≡ [] → operations_of i ≡ []
  does_none none = ap₂ (λ (y : Op) ts. flat_map (operated_at (access_kind_of y) i.qualifier) ts) is taken ∙ none

  deallocates_none : deallocates_by (access_kind_of x) ≡ false → deallocates i ≡ false
  deallocates_none none = ap (λ (y : Op). deallocates_by (access_kind_of y)) is ∙ none

  pub mentions_one : deallocates_by (access_kind_of x) ≡ false → mentions_of (Some i) (taken_by i ++ []) ≡ Mentions o.value (allowance_of x) ∷ []
  mentions_one none =
      ap₂ (λ (y : Op) ts. cond (deallocates_by (access_kind_of y)) [] (map (mentioned (allowance_of y)) (ts ++ []))) is taken
      ∙ ap (λ b. cond b [] (Mentions o.value (allowance_of x) ∷ [])) none

-- an instruction, and what it becomes
pub record BecomesAlike (c v : ValueId) (i j : Inst) : Type 0 where
  pub mentions : AreAlike c v (mentions_of (Some i) (taken_by i ++ [])) (mentions_of (Some j) (taken_by j ++ []))
  pub operations : operations_of j ≡ operations_of i
  pub deallocated : cond (deallocates j) (addresses_of j) [] ≡ cond (deallocates i) (addresses_of i) []

idle_alike : (i j : Inst) → deallocates i ≡ false → deallocates j ≡ false → cond (deallocates j) (addresses_of j) [] ≡ cond (deallocates i) (addresses_of i) []
idle_alike i j e h = ap (λ b. cond b (addresses_of j) []) h ∙ sym (ap (λ b. cond b (addresses_of i) []) e)

-- the copy's operand, and those of the destroys of the copy
pub record HasOperands (c v : ValueId) (i : Inst) : Type 0 where
  pub copies : i.op ≡ op.CopyValue → makes c i ≡ true → (o : Operand) × (i.operands ≡ o ∷ []) × (o.value ≡ v)
  pub destroys : i.op ≡ op.DestroyValue → takes c i ≡ true → (o : Operand) × (i.operands ≡ o ∷ []) × (o.value ≡ c)

inst_alike : (c v : ValueId) (i j : Inst) → Becomes c i j → HasOperands c v i → BecomesAlike c v i j
inst_alike c v i _ (stays a b) h = record { mentions = alike_same c v _; operations = refl; deallocated = refl }
inst_alike c v i _ (borrows is made) h =
    let j : Inst = with_op op.BeginBorrow i in
    let x = h.copies is made in
    let before = taken_one i x.0 op.CopyValue role.Used x.1 is refl in
    let after = taken_one j x.0 op.BeginBorrow role.Used x.1 refl refl in
    let one : mentions_of (Some i) (taken_by i ++ []) ≡ Mentions v NeitherOfThem ∷ [] =
    mentions_one i x.0 op.CopyValue role.Used is before refl ∙ ap (λ w. Mentions w NeitherOfThem ∷ []) x.2 in
    let other : mentions_of (Some j) (taken_by j ++ []) ≡ Mentions v FreshObject ∷ [] =
    mentions_one j x.0 op.BeginBorrow role.Used refl after refl ∙ ap (λ w. Mentions w FreshObject ∷ []) x.2 in
    record {
      mentions = subst (λ xs. AreAlike c v xs (mentions_of (Some j) (taken_by j ++ []))) (sym one)
          (subst (λ ys. AreAlike c v (Mentions v NeitherOfThem ∷ []) ys) (sym other) (copied, tt));
      operations = does_none j x.0 op.BeginBorrow role.Used refl after refl ∙ sym (does_none i x.0 op.CopyValue role.Used is before refl);
      deallocated = idle_alike i j (deallocates_none i x.0 op.CopyValue role.Used is before refl) (deallocates_none j x.0 op.BeginBorrow role.Used refl after refl);
    }
inst_alike c v i _ (ends is taken) h =
    let j : Inst = with_op op.EndBorrow i in
    let x = h.destroys is taken in
    let before = taken_one i x.0 op.DestroyValue role.Consumed x.1 is refl in
    let after = taken_one j x.0 op.EndBorrow role.ScopeRole x.1 refl refl in
    let one : mentions_of (Some i) (taken_by i ++ []) ≡ Mentions c NeitherOfThem ∷ [] =
    mentions_one i x.0 op.DestroyValue role.Consumed is before refl ∙ ap (λ w. Mentions w NeitherOfThem ∷ []) x.2 in
    let other : mentions_of (Some j) (taken_by j ++ []) ≡ Mentions c BuildingBorrow ∷ [] =
    mentions_one j x.0 op.EndBorrow role.ScopeRole refl after refl ∙ ap (λ w. Mentions w BuildingBorrow ∷ []) x.2 in
    record {
      mentions = subst (λ xs. AreAlike c v xs (mentions_of (Some j) (taken_by j ++ []))) (sym one)
          (subst (λ ys. AreAlike c v (Mentions c NeitherOfThem ∷ []) ys) (sym other) (destroyed, tt));
      operations = does_none j x.0 op.EndBorrow role.ScopeRole refl after refl ∙ sym (does_none i x.0 op.DestroyValue role.Consumed is before refl);
      deallocated = idle_alike i j (deallocates_none i x.0 op.DestroyValue role.Consumed is before refl) (deallocates_none j x.0 op.EndBorrow role.ScopeRole refl after refl);
    }

pub lent_alike : (c v : ValueId) (i : Inst) → HasOperands c v i → BecomesAlike c v i (lent_inst c i)
lent_alike c v i h = inst_alike c v i (lent_inst c i) (becomes c i) h

pub does_alike : (c v : ValueId) (i j : Inst) → BecomesAlike c v i j → DoesAlike i j
does_alike c v i j h = record { operations = h.operations; deallocated = h.deallocated }
