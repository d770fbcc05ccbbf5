-- What an instruction keeps that gets another op: its parts are those of the other row too.
use Rattle.std.proofs.Common.{◌≡◌, refl, sym, ap, ◌∙◌, subst, Bool, true}
use Rattle.std.specs.Prelude.{◌||◌, IfSome, IsTrue, not}
use Rattle.copy_pairing_model.specs.Rewritten.{with_op}
use Rattle.instruction_table.specs.Forms.{detail_of, has_one_result, is_terminator}
use Rattle.instruction_table.specs.declared.entries.Detail.{Detail}
use Rattle.instruction_table.specs.declared.op.Op.{Op}
use Rattle.numbered_form.specs.inner.Literals.{HasLiterals, is_number_by, is_text_by}
use Rattle.numbered_form.specs.inner.Parts.{HasItsParts, IsInside, has_edges, has_operands, has_results, is_callee, is_debug, is_flags, is_member, is_number}
use Rattle.numbered_form.specs.inner.Parts.{is_signature, is_silent, is_text, is_type, may_have, row_has}
use Rattle.sil_ast.specs.declared.inst.Inst.{Inst}
use Rattle.copy_pairing_acceptance.proofs.RewrittenTypingLaws.Alike.{Changes, borrows, ends, kept, moves}

flags_stay : (o p : Op) → Changes o p → (b : Bool) → (row_has is_flags o || b) ≡ true → (row_has is_flags p || b) ≡ true
flags_stay _ _ borrows b h = refl
flags_stay _ _ ends b h = h
flags_stay _ _ moves b h = refl

module _ (i : Inst) (o p : Op) (is : i.op ≡ o) (c : Changes o p) where
  pub new_parts : HasItsParts i → HasItsParts (with_op p i)
  unfolding has_one_result
  new_parts h = record {
    ty = h.ty ∙ kept (row_has is_type) refl refl refl i o p is c;
    signature = h.signature ∙ kept (row_has is_signature) refl refl refl i o p is c;
    function = h.function ∙ kept (row_has is_callee) refl refl refl i o p is c;
    member = h.member ∙ kept (row_has is_member) refl refl refl i o p is c;
    number = h.number ∙ kept (row_has is_number) refl refl refl i o p is c;
    text = h.text ∙ kept (row_has is_text) refl refl refl i o p is c;
    qualifier = sym (kept (λ q. may_have q i.qualifier) refl refl refl i o p is c) ∙ h.qualifier;
    flags = flags_stay o p c (not (i.lexical || i.var_decl)) (ap (λ q. row_has is_flags q || not (i.lexical || i.var_decl)) (sym is) ∙ h.flags);
    debug = sym (kept (λ q. row_has is_debug q || is_silent i.debug) refl refl refl i o p is c) ∙ h.debug;
    operands = sym (kept (λ q. has_operands q i.operands) refl refl refl i o p is c) ∙ h.operands;
    edges = sym (kept (λ q. has_edges q i.edges) refl refl refl i o p is c) ∙ h.edges;
    results = sym (kept (λ q. has_results q i.results) refl refl refl i o p is c) ∙ h.results;
  }

  pub new_inside : IsInside i → IsInside (with_op p i)
  new_inside h = record { goes_on = sym (kept is_terminator refl refl refl i o p is c) ∙ h.goes_on; parts = new_parts h.parts }

  pub new_literals : HasLiterals i → HasLiterals (with_op p i)
  new_literals h =
      let detail : detail_of i.op ≡ detail_of p = kept detail_of refl refl refl i o p is c in
      record {
        number = subst (λ (x : Detail). IfSome i.number (λ n. IsTrue (is_number_by x i.ty n))) detail h.number;
        text = subst (λ (x : Detail). IfSome i.text (λ text. IsTrue (is_text_by x text))) detail h.text;
        argno = h.argno;
      }
