-- The texts of the types in the generated module.
use Rattle.std.proofs.Common.{◌≡◌, ◌∙◌, ℕ, List, [], ◌∷◌, ◌++◌, codes, ap, sym}
use Rattle.std.specs.Fmt.{digits}
use Rattle.sil_ast.specs.declared.type_name.TypeName.{TypeName-F, fold-roll-TypeName}
use Rattle.sil_ast.specs.declared.type_name.TypeName.TheVariants as type
use Rattle.sil_ast.specs.declared.type_name.TypeName.TheVariants.{rolls-Int, rolls-Named, rolls-Optional, rolls-Tuple, rolls-Address}
use Rattle.sil_printer.specs.CanonicalTypes.{type_text, type_over}
use Rattle.sil_command_generator.specs.WorkFunctions.{flag, int, list, node, sum_and_flag}

pub int_text : type_text int ≡ codes "Builtin.Int64"
unfolding digits
int_text = ap type_text (sym (rolls-Int 64)) ∙ fold-roll-TypeName (List ℕ) type_over (TypeName-F.Int 64)

pub flag_text : type_text flag ≡ codes "Builtin.Int1"
unfolding digits
flag_text = ap type_text (sym (rolls-Int 1)) ∙ fold-roll-TypeName (List ℕ) type_over (TypeName-F.Int 1)

pub node_text : type_text node ≡ codes "Node"
node_text = ap type_text (sym (rolls-Named (codes "Node"))) ∙ fold-roll-TypeName (List ℕ) type_over (TypeName-F.Named (codes "Node"))

pub list_text : type_text list ≡ codes "Optional<Node>"
list_text =
    ap type_text (sym (rolls-Optional node)) ∙ fold-roll-TypeName (List ℕ) type_over (TypeName-F.Optional node)
    ∙ ap (λ t. codes "Optional<" ++ t ++ codes ">") node_text

pub sum_text : type_text sum_and_flag ≡ codes "(Builtin.Int64, Builtin.Int1)"
sum_text =
    ap type_text (sym (rolls-Tuple (int ∷ flag ∷ []))) ∙ fold-roll-TypeName (List ℕ) type_over (TypeName-F.Tuple (int ∷ flag ∷ []))
    ∙ ap (λ t. type_over (TypeName-F.Tuple (t ∷ type_text flag ∷ []))) int_text
    ∙ ap (λ t. type_over (TypeName-F.Tuple (codes "Builtin.Int64" ∷ t ∷ []))) flag_text

pub unit_text : type_text (type.Tuple []) ≡ codes "()"
unit_text = ap type_text (sym (rolls-Tuple [])) ∙ fold-roll-TypeName (List ℕ) type_over (TypeName-F.Tuple [])

pub int_address_text : type_text (type.Address int) ≡ codes "*Builtin.Int64"
int_address_text =
    ap type_text (sym (rolls-Address int)) ∙ fold-roll-TypeName (List ℕ) type_over (TypeName-F.Address int)
    ∙ ap (λ t. codes "*" ++ t) int_text

pub list_address_text : type_text (type.Address list) ≡ codes "*Optional<Node>"
list_address_text =
    ap type_text (sym (rolls-Address list)) ∙ fold-roll-TypeName (List ℕ) type_over (TypeName-F.Address list)
    ∙ ap (λ t. codes "*" ++ t) list_text

pub ruleset types = (int_text, flag_text, node_text, list_text, sum_text, unit_text, int_address_text, list_address_text)
