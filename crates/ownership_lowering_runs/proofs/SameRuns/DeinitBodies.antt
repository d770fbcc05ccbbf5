-- The deinitialiser of a class: its argument is lent, and it returns nothing.
use Rattle.std.proofs.Common.{◌≡◌, ℕ, map, refl, sym, ap, ◌∙◌, true, not, Option, Some, None}
use Rattle.std.specs.Prelude.{slice_get}
use Rattle.std.specs.List.{list_all}
use Rattle.std.specs.Option.{option_to_list}
use Rattle.numbered_form.specs.Names.{Name, class_name}
use Rattle.sil_ast.specs.declared.function.Function.{Function}
use Rattle.sil_ast.specs.declared.module.Module.{Module}
use Rattle.sil_ast.specs.declared.place.FuncId.{FuncId}
use Rattle.sil_ast.specs.declared.vtable.DeinitEntry.{DeinitEntry}
use Rattle.sil_ast.specs.declared.vtable.Vtable.{Vtable}
use Rattle.sil_rules.specs.declared.rule.Rule.TheVariants as rule
use Rattle.sil_verifier_runs.specs.sil_verifier_accepted.AcceptedModules.inner.Checked.{IsVerified}
use Rattle.sil_types.specs.Typing.Same.{is_same_signature}
use Rattle.sil_types.specs.Typing.SignatureRules.{deinit_signature, has_wrong_deinitialiser, is_deinitialiser, is_external, names_deinitialiser}
use Rattle.sil_types.specs.Typing.Typed.{at_vtable, deinit_signature as breaks_deinit, vtable}
use Rattle.sil_verifier_runs.proofs.sil_verifier_values.Accepted.{well_typed}
use Rattle.ownership_lowering_laws.proofs.holder_model_typing.RunTypingLaws.Found.{both_first, both_second, named_at, not_false}
use Rattle.ownership_lowering_laws.proofs.holder_model_typing.RunTypingLaws.Rows.Finding.{never_passes, passed}
use Rattle.numbered_form.proofs.Lists.{mapped_from}
use Rattle.ownership_lowering_laws.proofs.holder_model_typing.RunTypingLaws.SameFacts.{same_signatures}
use Rattle.sil_types_declarations.specs.TypeDefinitions.Declarations.{at_place, declarations_of, place_of}
use Rattle.sil_types_declarations.specs.TypeDefinitions.Lookups.{deinit_in, deinit_of}

-- the deinitialiser that a vtable of the class names
record Named (m : Module) (class : Name) (g : FuncId) : Type 0 where
  place : ℕ
  table : Vtable
  entry : DeinitEntry
  there : slice_get m.vtables place ≡ Some table
  of_class : table.class_name ≡ class
  names : table.entry ≡ Some entry
  function : entry.function ≡ g

named : (m : Module) (class : Name) (g : FuncId) → deinit_of (declarations_of m) class ≡ Some g → Named m class g
named m class g e = at (place_of (map class_name m.vtables) class) refl e
  where
    in_table : (k : ℕ) (o : Option Vtable) → place_of (map class_name m.vtables) class ≡ Some k → slice_get m.vtables k ≡ o → deinit_in o ≡ Some g → Named m class g
    in_table k None placed there e = cc
    in_table k (Some v) placed there e =
        let entry = mapped_from (λ x. x.function) v.entry g e in
        record {
          place = k;
          table = v;
          entry = entry.0;
          there = there;
          of_class = named_at class_name m.vtables class k v placed there;
          names = entry.1;
          function = entry.2;
        }

    at : (o : Option ℕ) → place_of (map class_name m.vtables) class ≡ o → deinit_in (at_place m.vtables o) ≡ Some g → Named m class g
    at None placed e = cc
    at (Some k) placed e = in_table k (slice_get m.vtables k) placed refl e

pub record HasDeinit (m : Module) (class : Name) (g : FuncId) : Type 0 where
  pub body : Function
  pub there : slice_get m.functions g.0 ≡ Some body
  pub signature : body.signature ≡ deinit_signature class

module _ (m : Module) (v : IsVerified m) (class : Name) (g : FuncId) (n : Named m class g) where
  deinit_there : HasDeinit m class g
  unfolding has_wrong_deinitialiser
  deinit_there =
      let right : list_all (names_deinitialiser m n.table.class_name) (option_to_list n.table.entry) ≡ true =
      not_false _ (never_passes _ (λ e. (well_typed m v).typed (at_vtable n.place) rule.DeinitSignature (vtable n.place n.table rule.DeinitSignature n.there (breaks_deinit e)))) in
      let here : names_deinitialiser m n.table.class_name n.entry ≡ true =
      both_first _ true (ap (λ o. list_all (names_deinitialiser m n.table.class_name) (option_to_list o)) (sym n.names) ∙ right) in
      let found = passed (is_deinitialiser n.table.class_name) (slice_get m.functions n.entry.function.0) here in
      let same : is_same_signature found.0.signature (deinit_signature n.table.class_name) ≡ true = both_second (not (is_external found.0.form)) _ found.2 in
      record {
        body = found.0;
        there = ap (λ x. slice_get m.functions x.0) (sym n.function) ∙ found.1;
        signature = same_signatures found.0.signature (deinit_signature n.table.class_name) same ∙ ap deinit_signature n.of_class;
      }

pub deinit_body : (m : Module) → IsVerified m → (class : Name) (g : FuncId) → deinit_of (declarations_of m) class ≡ Some g → HasDeinit m class g
deinit_body m v class g e = deinit_there m v class g (named m class g e)
