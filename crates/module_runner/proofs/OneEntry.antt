-- A name finds one function, since no name is given twice.
use Rattle.std.proofs.Common.{◌≡◌, ◌∙◌, ℕ, sym, ap, Some, map, slice_get}
use Rattle.std.proofs.lemmas.Option.{same_Some}
use Rattle.numbered_form.specs.Names.{function_name}
use Rattle.sil_ast.specs.declared.place.FuncId.{FuncId}
use Rattle.count_machine.proofs.holder_model_typing.RunTypingLaws.Found.{place_once}
use Rattle.sil_types_declarations.specs.TypeDefinitions.Declarations.{place_of}
use Rattle.module_runner.specs.inner.Laws.{HaveOneEntry}

pub one_entry : HaveOneEntry
one_entry m name e other f g numbered entry again =
    let names = map function_name m.functions in
    let first : place_of names name ≡ Some e.0 =
    ap (place_of names) (sym entry.named) ∙ place_once function_name m.functions e.0 f numbered.once.functions entry.there in
    let second : place_of names name ≡ Some other.0 =
    ap (place_of names) (sym again.named) ∙ place_once function_name m.functions other.0 g numbered.once.functions again.there in
    let same : other.0 ≡ e.0 = same_Some other.0 e.0 (sym second ∙ first) in
    let number : other ≡ e = ap (λ n. let x : FuncId = record { 0 = n } in x) same in
    (number, same_Some g f (sym again.there ∙ ap (λ (n : ℕ). slice_get m.functions n) same ∙ entry.there))
