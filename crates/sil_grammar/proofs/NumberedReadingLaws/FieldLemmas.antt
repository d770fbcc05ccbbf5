-- A good module, once it is resolved, has its parts, literals, fields, names, types and forms.
use Rattle.std.proofs.Common.{◌≡◌, ◌↔◌, ℕ, List, [], ◌∷◌, map, filter, Option, Some, None, Bool, true, false, not, if◌then◌else◌, cond, IfSome, ap, sym, refl, ◌∙◌, codes, flat_map, true≢false}
use Rattle.std.specs.List.{list_any}
use Rattle.std.specs.Option.{option_map}
use Rattle.std.specs.Str.{bytes_eq}
use Rattle.sil_ast.specs.declared.decl.Decl.{Decl}
use Rattle.sil_ast.specs.declared.function.Form.TheVariants.{External, Lowered, Ossa}
use Rattle.sil_ast.specs.declared.function.Function.{Function}
use Rattle.sil_ast.specs.declared.function.Block.{Block}
use Rattle.sil_ast.specs.declared.inst.Inst.{Inst}
use Rattle.sil_grammar_tree.specs.declared.written_tree.written_declarations.WrittenDecl.{WrittenDecl}
use Rattle.sil_grammar_tree.specs.declared.written_tree.written_declarations.WrittenToken.{WrittenToken}
use Rattle.sil_grammar_tree.specs.declared.written_tree.written_functions.WrittenBlock.{WrittenBlock}
use Rattle.sil_grammar_tree.specs.declared.written_tree.written_functions.WrittenFunction.{WrittenFunction}
use Rattle.sil_grammar_tree.specs.declared.written_tree.written_module.WrittenEntry.{WrittenEntry}
use Rattle.sil_grammar_tree.specs.declared.written_tree.written_module.WrittenModule.{WrittenModule}
use Rattle.sil_grammar_tree.specs.WrittenTree.Places.{is_kept, is_ossa}
use Rattle.sil_grammar_names.specs.NameScopes.Names.{Name, decls_of, functions_of, name_of, vtables_of}
use Rattle.sil_grammar_names.specs.NameResolution.Resolved.{Scope, form_of, resolved, resolved_blocks, resolved_decl, resolved_entry, resolved_function, resolved_vtable, scope_of}
use Rattle.numbered_form.specs.Lists.{Each}
use Rattle.numbered_form.specs.inner.Fields.{AreStructFieldsStrong, HasStrongFields}
use Rattle.numbered_form.specs.inner.Functions.{AreFunctionsFormed, IsAttribute, IsFormed}
use Rattle.numbered_form.specs.Insts.{EachInBlock, EachInFunction, EachInst}
use Rattle.numbered_form.specs.inner.Literals.{AreLiteralsInRange, HasLiterals}
use Rattle.numbered_form.specs.Names.{AreNamesSpelled, IsDeclSpelled, IsFunctionSpelled, IsInstSpelled, IsVtableSpelled, IsWord}
use Rattle.numbered_form.specs.inner.Parts.{BlockHasParts, FunctionHasParts, HaveTheirParts}
use Rattle.numbered_form.specs.inner.Types.{AreTypesWritten, HasBlockTypes, HasDeclTypes, HasFunctionTypes}
use Rattle.sil_grammar.proofs.NumberedReadingLaws.ListsAndFaults.{Each-map}
use Rattle.sil_grammar.proofs.NumberedReadingLaws.BlockLemmas.{Each-blocks, block_parts, block_types, in_block}
use Rattle.sil_grammar.proofs.NumberedReadingLaws.FaultlessParts.{IsGoodBlock, IsGoodEntry, IsGoodFunction, IsGoodInst, IsGoodModule, IsGoodVtable, IsWordToken}
use Rattle.sil_grammar.proofs.NumberedReadingLaws.ModuleLemmas.{WritesGoodDecl, good_decls, good_functions, good_vtables}

-- what holds of each good function holds of each function of the module
pub in_functions : (Q : Function → Type 0) → ((names : List Name) (f : WrittenFunction) → IsGoodFunction f → Q (resolved_function names f))
    → (w : WrittenModule) → IsGoodModule w → Each Q (resolved w).functions
unfolding resolved
in_functions Q h w g = Each-map (resolved_function _) IsGoodFunction Q (h _) (flat_map functions_of w.items) (good_functions w.items g.items)

pub in_decls : (Q : Decl → Type 0) → ((d : WrittenDecl) → WritesGoodDecl d → Q (resolved_decl d)) → (w : WrittenModule) → IsGoodModule w → Each Q (resolved w).decls
unfolding resolved
in_decls Q h w g = Each-map resolved_decl WritesGoodDecl Q h (flat_map decls_of w.items) (good_decls w.items g.items)

pub in_insts : (Q : Inst → Type 0) → ((i : Inst) → IsGoodInst i → Q i) → (w : WrittenModule) → IsGoodModule w → EachInst Q (resolved w)
in_insts Q h w g = in_functions (EachInFunction Q) (λ names f k. Each-blocks (scope_of names f) IsGoodBlock (EachInBlock Q) (in_block Q h (scope_of names f)) 0 f.blocks k.blocks) w g

pub read_parts : (w : WrittenModule) → IsGoodModule w → HaveTheirParts (resolved w)
read_parts w g = in_functions FunctionHasParts (λ names f k. Each-blocks (scope_of names f) IsGoodBlock BlockHasParts (block_parts (scope_of names f)) 0 f.blocks k.blocks) w g

pub read_literals : (w : WrittenModule) → IsGoodModule w → AreLiteralsInRange (resolved w)
read_literals w g = in_insts HasLiterals (λ i k. k.literals) w g

pub read_fields : (w : WrittenModule) → IsGoodModule w → AreStructFieldsStrong (resolved w)
read_fields w g = in_decls HasStrongFields (λ d k. k.strong) w g

pub read_types : (w : WrittenModule) → IsGoodModule w → AreTypesWritten (resolved w)
read_types w g = record {
  declarations = in_decls HasDeclTypes (λ d k. k.types) w g;
  functions = in_functions HasFunctionTypes (λ names f k.
      record { signature = k.signature.types; blocks = Each-blocks (scope_of names f) IsGoodBlock HasBlockTypes (block_types (scope_of names f)) 0 f.blocks k.blocks }) w g;
}

-- attributes

ossa_is : (text : List ℕ) → text ≡ codes "ossa" → bytes_eq text (codes "ossa") ≡ true
ossa_is text e = ap (λ t. bytes_eq t (codes "ossa")) e

no_ossa : (token : WrittenToken) → is_kept token ≡ true → IsAttribute token.text
no_ossa token e f = true≢false (sym e ∙ ap not (ossa_is token.text f))

kept_one : (P : List ℕ → Type 0) (kept : Bool) (token : WrittenToken) (rest : List WrittenToken)
    → (kept ≡ true → P token.text) → Each P (map name_of rest) → Each P (map name_of (cond kept (token ∷ rest) rest))
kept_one P true token rest h g = (h refl, g)
kept_one P false token rest h g = g

kept_attributes : (P : List ℕ → Type 0) → ((token : WrittenToken) → IsWordToken token → is_kept token ≡ true → P token.text)
    → (tokens : List WrittenToken) → Each IsWordToken tokens → Each P (map name_of (filter is_kept tokens))
kept_attributes P h [] g = tt
kept_attributes P h (token ∷ tokens) g = kept_one P (is_kept token) token (filter is_kept tokens) (h token g.0) (kept_attributes P h tokens g.1)

-- a body makes a function one that is defined here
inside : (ossa : Bool) → (if ossa then Ossa else Lowered) ≡ External → ⊥
inside true e = cc
inside false e = cc

pub not_empty : (b : Block) (bs : List Block) → b ∷ bs ≡ [] → ⊥
not_empty b bs e = cc

external_is : (s : Scope) (words : List WrittenToken) (blocks : List WrittenBlock) → (form_of words blocks ≡ External) ↔ (resolved_blocks s 0 blocks ≡ [])
external_is s words [] = (λ e. refl, λ e. refl)
external_is s words (b ∷ blocks) = (λ e. absurd (inside (list_any is_ossa words) e), λ e. absurd (not_empty _ _ e))

pub read_functions : (w : WrittenModule) → IsGoodModule w → AreFunctionsFormed (resolved w)
read_functions w g = in_functions IsFormed (λ names f k. record {
  attributes = kept_attributes IsAttribute (λ token word e. no_ossa token e) f.attributes k.attributes;
  external = external_is (scope_of names f) f.attributes f.blocks;
}) w g

function_spelled : (names : List Name) (f : WrittenFunction) → IsGoodFunction f → IsFunctionSpelled (resolved_function names f)
function_spelled names f k = record { name = k.name; attributes = kept_attributes IsWord (λ token word e. word) f.attributes k.attributes }

entry_spelled : (names : List Name) (entry : Option WrittenEntry) → IfSome entry IsGoodEntry → IfSome (option_map (resolved_entry names) entry) (λ e. IsWord e.owner)
entry_spelled names None g = tt
entry_spelled names (Some entry) g = g

vtables_spelled : (w : WrittenModule) → IsGoodModule w → Each IsVtableSpelled (resolved w).vtables
unfolding resolved
vtables_spelled w g = Each-map (resolved_vtable _) IsGoodVtable IsVtableSpelled
    (λ t k. record { name = k.name; owner = entry_spelled _ t.entry k.entry }) (flat_map vtables_of w.items) (good_vtables w.items g.items)

pub read_names : (w : WrittenModule) → IsGoodModule w → AreNamesSpelled (resolved w)
read_names w g = record {
  declarations = in_decls IsDeclSpelled (λ d k. k.spelled) w g;
  functions = in_functions IsFunctionSpelled function_spelled w g;
  vtables = vtables_spelled w g;
  insts = in_insts IsInstSpelled (λ i k. k.spelled) w g;
}
