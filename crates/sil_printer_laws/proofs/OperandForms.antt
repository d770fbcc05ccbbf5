-- Operands that are there or lacking, and operands without types.
use Rattle.std.proofs.Common.{◌≡◌, List, [], ◌∷◌, Option, Some, None, Bool, true, false, IsTrue, refl, sym, ◌||◌, ◌&&◌, true≢false, map}
use Rattle.std.specs.List.{AllZip, list_all}
use Rattle.std.specs.Prelude.{is_none, not}
use Rattle.std.proofs.lemmas.Bool.{and_parts}
use Rattle.sil_ast.specs.declared.operands.Operand.{Operand}
use Rattle.sil_grammar_values.specs.inner.RowMeaning.{bare_operand}
use Rattle.sil_grammar_tree.specs.declared.written_tree.written_declarations.WrittenToken.{WrittenToken}
use Rattle.numbered_form.specs.inner.Parts.{is_bare}
use Rattle.sil_printer_laws.proofs.Written.{IsOperandWritten, IsValueNamed}

pub impossible : {A : Type 0} → IsTrue false → A
impossible h = absurd (true≢false (sym h))

-- where one is there, none is lacking
pub one_there : (has lack : Bool) → IsTrue (has || (lack && false)) → IsTrue has
one_there true lack h = refl
one_there false true h = h
one_there false false h = h

-- where none is there, one is lacking
pub none_there : {A : Type 0} (lack : Bool) → IsTrue (not lack) → IsTrue (false || (lack && true)) → A
none_there true never h = impossible never
none_there false never h = impossible h

-- an operand without a type
pub bare_written : (o : Operand) (token : WrittenToken) → IsTrue (is_bare o) → IsValueNamed o.value token → IsOperandWritten o (bare_operand token)
bare_written o token bare named = record { name = named; ty = is_none_one o.ty bare }
  where
    is_none_one : {A : Type 0} (o : Option A) → IsTrue (is_none o) → None ≡ o
    is_none_one None h = refl
    is_none_one (Some x) h = impossible h

-- operands without types
pub all_bare_written : (os : List Operand) (tokens : List WrittenToken) → IsTrue (list_all is_bare os) → AllZip (λ o token. IsValueNamed o.value token) os tokens
    → AllZip IsOperandWritten os (map bare_operand tokens)
all_bare_written [] [] bare named = tt
all_bare_written [] (token ∷ tokens) bare named = absurd named
all_bare_written (o ∷ os) [] bare named = absurd named
all_bare_written (o ∷ os) (token ∷ tokens) bare named =
    (bare_written o token (and_parts (is_bare o) (list_all is_bare os) bare).0 named.0, all_bare_written os tokens (and_parts (is_bare o) (list_all is_bare os) bare).1 named.1)
