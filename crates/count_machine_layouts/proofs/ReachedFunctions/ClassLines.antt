-- A class and its ancestors, gathered one by one, and the storages of their fields.
use Rattle.std.proofs.Common.{◌≡◌, ℕ, ◌+◌, ◌-◌, ◌<◌, List, [], ◌∷◌, ◌++◌, map, sym, ap, ap₂, ◌∙◌, append_assoc, Option, Some}
use Rattle.std.specs.Option.{option_to_list}
use Rattle.std.proofs.lemmas.List.{map-append}
use denote.Ref.{Bor}
use Rattle.sil_ast.specs.declared.decl.Field.{Field}
use Rattle.sil_ast.specs.declared.decl.Storage.{Storage}
use Rattle.sil_rules.specs.declared.limits.TheConstants.{DEPTH}
use Rattle.numbered_form.specs.Names.{Name}
use Rattle.sil_types_declarations.proofs.TypeDeclarations.Chains.{chain_is, chain_on}
use Rattle.sil_types_declarations.specs.TypeDefinitions.Declarations.{Declarations, ancestors_of, chain, superclass_of}
use Rattle.sil_types_declarations.specs.TypeDefinitions.Lookups.{chain_fields, own_fields}
use Rattle.holder_model_typing.proofs.RunTypingLaws.ClassChains.{fields_split}
use Rattle.count_machine_model.specs.ReadyCode.ReadyModules.{storage_of}
use Rattle.count_machine_layouts.specs.ReachedFunctions.inner.Names.{names_told}

abbrev told : Bor Name → Name
told n = n.now

one_more : (items : List (Bor Name)) (class : Bor Name) → names_told (items ++ class ∷ []) ≡ names_told items ++ class.now ∷ []
one_more items class = map-append told items (class ∷ [])

module _ (d : Declarations) where
  pub line_begun : (items first : List (Bor Name)) (class : Bor Name) (above : Option Name) → items ≡ first ++ class ∷ []
      → first ≡ [] → above ≡ superclass_of d class.now
      → names_told items ++ chain d (DEPTH - 0) above ≡ class.now ∷ ancestors_of d class.now
  line_begun items first class above is none next =
      ap (λ xs. names_told xs ++ chain d (DEPTH - 0) above) (is ∙ ap (λ xs. xs ++ class ∷ []) none)
      ∙ ap (λ cs. class.now ∷ cs) (chain_is d class.now above next)

  pub line_next : (most i : ℕ) → i < most → (items more : List (Bor Name)) (class : Bor Name) (at above : Option Name) (line : List Name)
      → at ≡ Some class.now → more ≡ items ++ class ∷ [] → above ≡ superclass_of d class.now
      → names_told items ++ chain d (most - i) at ≡ line → names_told more ++ chain d (most - (i + 1)) above ≡ line
  line_next most i lt items more class at above line is next up so_far =
      ap₂ (λ xs o. names_told xs ++ chain d (most - (i + 1)) o) next up
      ∙ ap (λ xs. xs ++ chain d (most - (i + 1)) (superclass_of d class.now)) (one_more items class)
      ∙ append_assoc (names_told items) (class.now ∷ []) (chain d (most - (i + 1)) (superclass_of d class.now))
      ∙ ap (λ cs. names_told items ++ cs) (sym (chain_on d most i lt class.now) ∙ ap (chain d (most - i)) (sym is)) ∙ so_far

  -- the fields of the last class come before those of the classes that are left
  fields_next : (rest : List (Bor Name)) (class : Bor Name)
      → chain_fields d (names_told (rest ++ class ∷ [])) ≡ own_fields d class.now ++ chain_fields d (names_told rest)
  fields_next rest class = ap (chain_fields d) (one_more rest class) ∙ fields_split d (names_told rest) (class.now ∷ [])

  pub storages_next : (items rest : List (Bor Name)) (last : Option (Bor Name)) (class : Bor Name) (own : List Field) (storages more all : List Storage)
      → items ≡ rest ++ option_to_list last → last ≡ Some class → own ≡ own_fields d class.now → more ≡ storages ++ map storage_of own
      → storages ++ map storage_of (chain_fields d (names_told items)) ≡ all → more ++ map storage_of (chain_fields d (names_told rest)) ≡ all
  storages_next items rest last class own storages more all is there own_is next so_far =
      let left = chain_fields d (names_told rest) in
      let items_is = is ∙ ap (λ o. rest ++ option_to_list o) there in
      ap (λ xs. xs ++ map storage_of left) next
      ∙ append_assoc storages (map storage_of own) (map storage_of left)
      ∙ ap (λ xs. storages ++ xs) (sym (map-append storage_of own left) ∙ ap (λ xs. map storage_of (xs ++ left)) own_is
      ∙ ap (map storage_of) (sym (fields_next rest class) ∙ ap (λ xs. chain_fields d (names_told xs)) (sym items_is)))
      ∙ so_far
