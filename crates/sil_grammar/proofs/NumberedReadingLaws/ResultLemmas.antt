-- The results of an instruction: they are there, and are few, whatever names they have.
use Rattle.std.proofs.Common.{◌≡◌, ℕ, suc, ◌≤◌, ◌+◌, List, [], ◌∷◌, length, Option, None, Bool, true, false, ◌&&◌, not, if◌then◌else◌, ap, refl, arith}
use Rattle.std.proofs.lemmas.List.{length-map}
use Rattle.instruction_table.specs.Forms.{has_one_result}
use Rattle.instruction_table.specs.declared.op.Op.{Op}
use Rattle.sil_grammar_tree.specs.declared.written_tree.written_declarations.WrittenToken.{WrittenToken}
use Rattle.sil_grammar_tree.specs.declared.written_tree.written_instructions.WrittenInst.{WrittenInst}
use Rattle.sil_grammar_names.specs.NameResolution.Resolved.{Scope, counted, defined_by, resolved_inst}
use Rattle.numbered_form.specs.Lists.{is_empty}
use Rattle.numbered_form.specs.inner.Parts.{has_results}
use Rattle.sil_grammar.proofs.NumberedReadingLaws.FaultlessParts.{IsGoodInst}

not_and_false : (b : Bool) → not (b && false) ≡ true
not_and_false true = refl
not_and_false false = refl

unnamed_results : (one : Bool) (first : ℕ) → not (one && is_empty (counted first (if one then None ∷ [] else []))) ≡ true
unnamed_results true first = refl
unnamed_results false first = refl

pub results_there : (o : Op) (first : ℕ) (tokens : List WrittenToken) → has_results o (counted first (defined_by o tokens)) ≡ true
results_there o first [] = unnamed_results (has_one_result o) first
results_there o first (token ∷ tokens) = not_and_false (has_one_result o)

pub length-counted : (first : ℕ) (values : List (Option (List ℕ))) → length (counted first values) ≡ length values
length-counted first [] = refl
length-counted first (value ∷ values) = ap suc (length-counted (first + 1) values)

unnamed_few : (one : Bool) (first : ℕ) → length (counted first (if one then None ∷ [] else [])) ≤ 64
unnamed_few true first = omega arith
unnamed_few false first = omega arith

pub results_few : (o : Op) (first : ℕ) (tokens : List WrittenToken) → length tokens ≤ 64 → length (counted first (defined_by o tokens)) ≤ 64
results_few o first [] h = unnamed_few (has_one_result o) first
results_few o first (token ∷ tokens) h = rw (length-counted, length-map) h

-- an instruction with these names for its results
pub renamed : (s : Scope) (first : ℕ) (w : WrittenInst) (tokens : List WrittenToken) → length tokens ≤ 64
    → IsGoodInst (resolved_inst s first w) → IsGoodInst (resolved_inst s first (record w { results = tokens }))
renamed s first w tokens few g = record {
  parts = record {
    ty = g.parts.ty;
    signature = g.parts.signature;
    function = g.parts.function;
    member = g.parts.member;
    number = g.parts.number;
    text = g.parts.text;
    qualifier = g.parts.qualifier;
    flags = g.parts.flags;
    debug = g.parts.debug;
    operands = g.parts.operands;
    edges = g.parts.edges;
    results = results_there w.op first tokens;
  };
  literals = record { number = g.literals.number; text = g.literals.text; argno = g.literals.argno };
  spelled = record { member = g.spelled.member; text = g.spelled.text; debug = g.spelled.debug; edges = g.spelled.edges };
  types = record { ty = g.types.ty; signature = g.types.signature; operands = g.types.operands; edges = g.types.edges };
  limits = record { operands = g.limits.operands; results = results_few w.op first tokens few; signature = g.limits.signature; edges = g.limits.edges };
}
