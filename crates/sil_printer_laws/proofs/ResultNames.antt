-- The results of a printed instruction have their names, and a terminator has none.
use Rattle.std.proofs.Common.{◌≡◌, List, [], ◌∷◌, Option, Some, None, Bool, true, false, not, ◌&&◌, if◌then◌else◌, ap, sym, refl, subst, decimal, true≢false}
use Rattle.std.specs.List.{AllZip}
use Rattle.instruction_table.specs.Forms.{has_one_result}
use Rattle.instruction_table.specs.declared.op.Op.{Op}
use Rattle.sil_ast.specs.declared.place.ValueId.{ValueId}
use Rattle.sil_grammar_tree.specs.declared.written_tree.written_declarations.WrittenToken.{WrittenToken}
use Rattle.sil_grammar_names.specs.NameScopes.Names.{Name, name_of}
use Rattle.sil_grammar_names.specs.NameResolution.Resolved.{defined_by}
use Rattle.numbered_form.specs.inner.Parts.{has_results}
use Rattle.sil_printer_laws.proofs.SideBySide.{zip_right}
use Rattle.sil_printer_laws.proofs.Written.{IsValueNamed}

-- the value is defined under its name
abbrev pub IsDefinedAs : ValueId → Option Name → Type 0
IsDefinedAs v name = name ≡ Some (decimal v.0)

no_result : (one : Bool) → not (one && true) ≡ true → one ≡ false
no_result true h = absurd (true≢false (sym h))
no_result false h = refl

pub results_defined : (o : Op) (results : List ValueId) (tokens : List WrittenToken) → has_results o results ≡ true
    → AllZip IsValueNamed results tokens → AllZip IsDefinedAs results (defined_by o tokens)
results_defined o [] [] h z =
    subst (λ (one : Bool). AllZip IsDefinedAs [] (if one then None ∷ [] else [])) (sym (no_result (has_one_result o) h)) tt
results_defined o [] (token ∷ tokens) h z = absurd z
results_defined o (v ∷ results) [] h z = absurd z
results_defined o (v ∷ results) (token ∷ tokens) h z =
    zip_right (λ name. Some (name_of name)) IsValueNamed IsDefinedAs (λ v token e. ap (λ text. Some text) e) (v ∷ results) (token ∷ tokens) z
