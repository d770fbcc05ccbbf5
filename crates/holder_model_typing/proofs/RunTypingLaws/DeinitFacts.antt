-- The deinitialiser of a class has a body, and takes an object of the class.
use Rattle.std.proofs.Common.{◌≡◌, ℕ, [], ◌∷◌, ◌++◌, map, refl, sym, ap, ◌∙◌, Bool, true, false, not, Option, Some, None}
use Rattle.std.specs.Prelude.{◌||◌, option_map, slice_get}
use Rattle.std.specs.List.{list_all, list_any}
use Rattle.std.specs.Option.{option_to_list}
use Rattle.std.proofs.lemmas.Option.{slice_get-map}
use Rattle.holder_model.specs.Frames.{has_any}
use Rattle.numbered_form.specs.Names.{Name, class_name}
use Rattle.sil_ast.specs.declared.function.Function.{Function}
use Rattle.sil_ast.specs.declared.module.Module.{Module}
use Rattle.sil_ast.specs.declared.place.FuncId.{FuncId}
use Rattle.sil_ast.specs.declared.type_name.TypeName.TheVariants as type
use Rattle.sil_ast.specs.declared.vtable.DeinitEntry.{DeinitEntry}
use Rattle.sil_ast.specs.declared.vtable.Vtable.{Vtable}
use Rattle.sil_rules.specs.declared.rule.Rule.TheVariants as rule
use Rattle.holder_model.specs.sil_types.Typing.OperandTypes.{argument_types}
use Rattle.holder_model.specs.sil_types.Typing.Same.{is_same_signature}
use Rattle.holder_model.specs.sil_types.Typing.SignatureRules.{deinit_signature, has_wrong_deinitialiser, is_deinitialiser, is_external, names_deinitialiser}
use Rattle.holder_model.specs.sil_types.Typing.Typed.{at_vtable, deinit_signature as breaks_deinit, vtable}
use Rattle.holder_model.specs.sil_types_declarations.TypeDefinitions.Declarations.{at_place, declarations_of, is_class, place_of}
use Rattle.holder_model.specs.sil_types_declarations.TypeDefinitions.Lookups.{deinit_in, deinit_of}
use Rattle.holder_model.specs.sil_types_declarations.TypeDefinitions.Mentions.{Item, members_named_by, mentioned_by}
use Rattle.holder_model.specs.sil_types_declarations.TypeDefinitions.Mentions as item
use Rattle.holder_model.specs.sil_types_declarations.TypeDefinitions.Rules.{IsWellNamed, has_unknown_owner, is_no_class, is_unknown}
use Rattle.holder_model.specs.RunTyping.CallForms.{DeinitsAreTyped, IsDeinitOf}
use Rattle.holder_model.specs.RunTyping.Forms.{OfValue}
use Rattle.holder_model_typing.specs.RunTypingLaws.inner.WellTyped.{IsWellTyped}
use Rattle.holder_model_typing.proofs.RunTypingLaws.FunctionFacts.{TypedFunction, typed_function}
use Rattle.holder_model_typing.proofs.RunTypingLaws.Found.{all_at, both_first, both_second, named_at, neither_second, not_false}
use Rattle.holder_model_typing.proofs.RunTypingLaws.Rows.Finding.{all_of_both, never_passes, passed}
use Rattle.numbered_form.proofs.Lists.{mapped_from}
use Rattle.holder_model_typing.proofs.RunTypingLaws.Rows.Layers.{target-Named}
use Rattle.holder_model_typing.proofs.RunTypingLaws.SameFacts.{same_signatures}
use Rattle.holder_model_typing.proofs.RunTypingLaws.ShapeFacts.{class_shape}
use Rattle.holder_model_typing.proofs.RunTypingLaws.SignatureFacts.{entry_forms_are, outer_form}
use Rattle.holder_model_typing.proofs.RunTypingLaws.Rows.Forms.{typed_form, value_form}

-- the deinitialiser that a vtable of the class names
record Named (m : Module) (class : Name) (g : FuncId) : Type 0 where
  place : ℕ
  table : Vtable
  entry : DeinitEntry
  there : slice_get m.vtables place ≡ Some table
  of_class : table.class_name ≡ class
  names : table.entry ≡ Some entry
  function : entry.function ≡ g

named : (m : Module) (class : Name) (g : FuncId) → deinit_of (declarations_of m) class ≡ Some g → Named m class g
named m class g e = at (place_of (map class_name m.vtables) class) refl e
  where
    in_table : (k : ℕ) (o : Option Vtable) → place_of (map class_name m.vtables) class ≡ Some k → slice_get m.vtables k ≡ o → deinit_in o ≡ Some g → Named m class g
    in_table k None placed there e = cc
    in_table k (Some v) placed there e =
        let entry = mapped_from (λ x. x.function) v.entry g e in
        record {
          place = k;
          table = v;
          entry = entry.0;
          there = there;
          of_class = named_at class_name m.vtables class k v placed there;
          names = entry.1;
          function = entry.2;
        }

    at : (o : Option ℕ) → place_of (map class_name m.vtables) class ≡ o → deinit_in (at_place m.vtables o) ≡ Some g → Named m class g
    at None placed e = cc
    at (Some k) placed e = in_table k (slice_get m.vtables k) placed refl e

module _ (m : Module) (r : IsWellTyped m) (class : Name) (g : FuncId) (n : Named m class g) where
  -- the vtable is that of a class
  table_named : IsWellNamed (declarations_of m) (item.vtable n.table)
  table_named =
      let P : Item → Type 0 = IsWellNamed (declarations_of m) in
      all_at P (map item.vtable m.vtables) n.place (item.vtable n.table) (all_of_both P (map item.decl m.decls ++ map item.function m.functions) (map item.vtable m.vtables) r.declared.items).1
      (slice_get-map item.vtable m.vtables n.place ∙ ap (option_map item.vtable) n.there)

  class_there : is_class (declarations_of m) class ≡ true
  class_there =
      let mentions = list_any (is_unknown (declarations_of m)) (mentioned_by (item.vtable n.table)) in
      let owners = list_any (has_unknown_owner (declarations_of m)) (members_named_by (item.vtable n.table)) in
      ap (is_class (declarations_of m)) (sym n.of_class) ∙ not_false _ (neither_second (mentions || owners) (is_no_class (declarations_of m) n.table.class_name) table_named.known)

  record Body : Type 0 where
    body : Function
    there : slice_get m.functions g.0 ≡ Some body
    inner : not (is_external body.form) ≡ true
    signature : body.signature ≡ deinit_signature class

  deinit_body : Body
  unfolding has_wrong_deinitialiser
  deinit_body =
      let right : list_all (names_deinitialiser m n.table.class_name) (option_to_list n.table.entry) ≡ true =
      not_false _ (never_passes _ (λ e. r.typed (at_vtable n.place) rule.DeinitSignature (vtable n.place n.table rule.DeinitSignature n.there (breaks_deinit e)))) in
      let here : names_deinitialiser m n.table.class_name n.entry ≡ true =
      both_first _ true (ap (λ o. list_all (names_deinitialiser m n.table.class_name) (option_to_list o)) (sym n.names) ∙ right) in
      let found = passed (is_deinitialiser n.table.class_name) (slice_get m.functions n.entry.function.0) here in
      let same : is_same_signature found.0.signature (deinit_signature n.table.class_name) ≡ true = both_second (not (is_external found.0.form)) _ found.2 in
      record {
        body = found.0;
        there = ap (λ x. slice_get m.functions x.0) (sym n.function) ∙ found.1;
        inner = both_first (not (is_external found.0.form)) _ found.2;
        signature = same_signatures found.0.signature (deinit_signature n.table.class_name) same ∙ ap deinit_signature n.of_class;
      }

  body_typed : TypedFunction m deinit_body.body
  body_typed = typed_function m r g.0 deinit_body.body deinit_body.there

  bodied : has_any deinit_body.body.blocks ≡ true
  bodied = at (has_any deinit_body.body.blocks) refl
    where
      at : (b : Bool) → has_any deinit_body.body.blocks ≡ b → b ≡ true
      at true e = refl
      at false e = let outer : not (is_external deinit_body.body.form) ≡ false = ap (λ x. not (is_external x)) (outer_form m deinit_body.body body_typed e) in let inner = deinit_body.inner in cc

  is_deinit : IsDeinitOf m class g
  is_deinit = record {
    body = deinit_body.body;
    there = deinit_body.there;
    bodied = bodied;
    takes =
        entry_forms_are m deinit_body.body body_typed bodied
        ∙ ap (λ s. map (typed_form (declarations_of m)) (argument_types s)) deinit_body.signature
        ∙ ap (λ x. x ∷ []) (value_form (declarations_of m) (type.Named class) (target-Named class) ∙ ap OfValue (class_shape m r class class_there));
  }

pub deinits : (m : Module) → IsWellTyped m → DeinitsAreTyped m
deinits m r class g e = is_deinit m r class g (named m class g e)
