-- Operands that are addresses by their rows don't end, so the entries that are left name their places.
use Rattle.std.proofs.Common.{◌≡◌, ⊎_elim, List, [], ◌∷◌, Bool, false, cond, Option, Some, None, Ok, refl, sym, ap, ◌∙◌, subst}
use Rattle.std.specs.Prelude.{Err}
use Rattle.std.specs.declared.result.Result.{Result}
use Rattle.holder_model_laws.specs.holder_model.Data.{Datum}
use Rattle.holder_model_laws.specs.holder_model.Faults.{HolderFault}
use Rattle.holder_model_laws.specs.holder_model.Frames.{Entry, and_more, datum_in, datum_or_fault, ends, entry_at}
use Rattle.holder_model_laws.specs.holder_model.Frames.{has_any, operand, operand_data, unless_dead, used_datum, with_ok}
use Rattle.holder_model_laws.specs.ownership_kinds_chains.OwnershipMarks.Marks.{ended_by, ended_with}
use Rattle.instruction_table.specs.declared.entries.Role.{Role}
use Rattle.instruction_table.specs.declared.entries.Role.TheVariants as role
use Rattle.sil_cfg_items.specs.Items.{item_taken}
use Rattle.sil_cfg_items.specs.declared.taken.Taken.{Taken}
use Rattle.holder_model_laws.specs.ownership_kinds_chains.declared.ownership_chains.facts.Facts.{Facts}
use Rattle.holder_model_values.specs.RunValues.Memory.{Memory}
use Rattle.sil_ast.specs.declared.place.ValueId.{ValueId}
use Rattle.sil_types_declarations.specs.declared.type_definitions.kind.Kind.{Kind}
use Rattle.sil_types_declarations.specs.declared.type_definitions.kind.Kind.TheVariants as kind
use Rattle.sil_verifier_frames.proofs.Typed.Entries.{left_typed}
use Rattle.sil_verifier_frames.proofs.Typed.Operands.{operand_there, operands_read}
use Rattle.sil_verifier_frames.specs.inner.Placed.Premises.{AreLeftTyped, AreOperandsNamed}
use Rattle.sil_verifier_frames.specs.inner.Placed.TakenPlaces.{AreNamedBy, IsNamedBy}
use Rattle.sil_verifier_frames.proofs.Placed.EntriesKept.{never_ok, ok_once}

module _ (facts : ValueId → Option Facts) where
  -- an address isn't ended
  never_ends : (t : Taken) → t.role ≡ role.AddressRole → ends facts t ≡ false
  never_ends t is = at (facts t.value)
    where
      by : (k : Kind) (r : Role) → r ≡ role.AddressRole → has_any (ended_by k r t.value) ≡ false
      by kind.Owned r e = ap (λ q. has_any (ended_by kind.Owned q t.value)) e
      by kind.Guaranteed r e = ap (λ q. has_any (ended_by kind.Guaranteed q t.value)) e
      by kind.Plain r e = refl

      at : (o : Option Facts) → has_any (ended_with o t) ≡ false
      at None = refl
      at (Some x) = by x.kind t.role is

  module _ (memory : Memory) (before left : List Entry) where
    abbrev found : List Entry → Bool → Taken → Result Datum HolderFault
    found es b t = with_ok (unless_dead memory) (cond b (datum_or_fault (datum_in (entry_at es t.value))) (used_datum t.role (entry_at left t.value)))

    one_named : (t : Taken) (x : Datum) → operand facts memory before left t ≡ Ok x → IsNamedBy left t x
    one_named t x is role p same =
        let stays = never_ends t role in
        let again : operand facts memory left left t ≡ Ok x = ap (λ b. found left b t) stays ∙ sym (ap (λ b. found before b t) stays) ∙ is in
        ⊎_elim (λ there. there) (λ there. there.1) (operand_there facts memory left left t x again) ∙ ap Some same

    each_named : (ts : List Taken) (xs : List Datum) → operand_data facts memory before left ts ≡ Ok xs → AreNamedBy left ts xs
    each_named [] xs is = subst (AreNamedBy left []) (ok_once [] xs is) tt
    each_named (t ∷ ts) xs is = at (operand facts memory before left t) refl (operand_data facts memory before left ts) (λ ys. each_named ts ys) is
      where
        at : (r : Result Datum HolderFault) → operand facts memory before left t ≡ r → (rs : Result (List Datum) HolderFault)
            → ((ys : List Datum) → rs ≡ Ok ys → AreNamedBy left ts ys) → with_ok (λ x. and_more x rs) r ≡ Ok xs → AreNamedBy left (t ∷ ts) xs
        at (Ok x) e (Ok ys) others h = subst (AreNamedBy left (t ∷ ts)) (ok_once (x ∷ ys) xs h) (one_named t x e, others ys refl)
        at (Ok x) e (Err z) others h = absurd (never_ok z xs h)
        at (Err z) e rs others h = absurd (never_ok z xs h)

pub operands_named : AreOperandsNamed
operands_named m n f w facts memory entries i ops s =
    each_named facts memory entries ops.left (item_taken f i) ops.given (operands_read facts memory (item_taken f i) entries ops s.read).given

pub left_typed_still : AreLeftTyped
left_typed_still m n f w facts memory entries i ops s =
    left_typed m w f facts (item_taken f i) entries ops.left s.typed (operands_read facts memory (item_taken f i) entries ops s.read).left
