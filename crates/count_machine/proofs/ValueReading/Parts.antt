-- The parts of a type that can be read can be read with a level less.
use Rattle.std.proofs.Common.{◌≡◌, ◌+◌, ◌<◌, ◌≤◌, ◌++◌, ℕ, List, [], ◌∷◌, Bool, true, Option, Some, None, map, sum, length, refl, sym, ap, ap₂, ◌∙◌, arith}
use Rattle.std.specs.Prelude.{◌&&◌, option_map}
use Rattle.std.specs.List.{flat_map, list_all}
use Rattle.std.specs.Option.{option_to_list}
use Rattle.std.proofs.lemmas.Bool.{and_parts}
use Rattle.std.proofs.lemmas.List.{map-append}
use Rattle.numbered_form.specs.Lists.{Each}
use Rattle.numbered_form.specs.Names.{Name}
use Rattle.holder_model.specs.RunTyping.Runnable.{IsRunnable}
use Rattle.holder_model_typing.proofs.RunTypingLaws.ListFacts.{map_twice}
use Rattle.holder_model_typing.proofs.RunTypingLaws.Opened.{fold-Tuple}
use Rattle.holder_model_typing.proofs.RunTypingLaws.Whole.{no_ring, told_named}
use Rattle.holder_model_values.specs.RunValues.Layers.{case_with, decl_with, named_within, over}
use Rattle.holder_model_values.specs.RunValues.inner.Laws.{has_no_address, has_no_address_over}
use Rattle.sil_ast.specs.TypeName.{largest}
use Rattle.sil_ast.specs.declared.decl.Case.{Case}
use Rattle.sil_ast.specs.declared.decl.Decl.{Decl}
use Rattle.sil_ast.specs.declared.decl.Decl.TheVariants as decl
use Rattle.sil_ast.specs.declared.decl.Field.{Field}
use Rattle.sil_ast.specs.declared.module.Module.{Module}
use Rattle.sil_ast.specs.declared.type_name.TypeName.{TypeName}
use Rattle.sil_ast.specs.declared.type_name.TypeName.TheVariants as type
use Rattle.sil_rules.specs.declared.limits.TheConstants.{LEAVES}
use Rattle.sil_types_declarations.specs.TypeDefinitions.Contained.{field_type, payload_types}
use Rattle.sil_types_declarations.specs.TypeDefinitions.Declarations.{Declarations, all_decls, all_names, decl_of, declarations_of}
use Rattle.sil_types_declarations.specs.TypeDefinitions.Measures.{leaves_in, leaves_of, measure_at, measure_of, measure_over, measures_of}
use Rattle.sil_types_declarations.specs.declared.type_definitions.measure.Measure.{Measure}
use Rattle.count_machine.specs.ValueReading.inner.Levels.{IsReadable, height_layer, height_of, payload_heights}
use Rattle.count_machine.proofs.ValueReading.Sized.{IsOfRunnable, declared_plain, enum_leaves, largest_within, of_module, struct_leaves}

pub each_readable : (d : Declarations) (levels : ℕ) → IsOfRunnable d → (ts : List TypeName) → list_all has_no_address ts ≡ true
    → largest (map (leaves_of d) ts) ≤ LEAVES → largest (map (height_of d) ts) < levels → Each (IsReadable d levels) ts
each_readable d levels r [] plain few low = tt
each_readable d levels r (t ∷ ts) plain few low =
    let parts = and_parts (has_no_address t) (list_all has_no_address ts) plain in
    (record { runnable = r; plain = parts.0; leaves = omega arith; height = omega arith }, each_readable d levels r ts parts.1 (omega arith) (omega arith))

-- types that are written out

pub all_plain : (ts : List TypeName) → list_all has_no_address ts ≡ list_all (λ b. b) (map has_no_address ts)
all_plain [] = refl
all_plain (t ∷ ts) = ap (λ b. has_no_address t && b) (all_plain ts)

module _ (d : Declarations) (levels : ℕ) where
  abbrev named_height : Name → ℕ
  named_height = named_within height_layer d (length (all_decls d))

  abbrev known : Name → Measure
  known = measure_at (all_names d) (measures_of d)

  pub tuple_parts : (ts : List TypeName) → IsReadable d (levels + 1) (type.Tuple ts) → Each (IsReadable d levels) ts
  tuple_parts ts r =
      let leaves : leaves_of d (type.Tuple ts) ≡ sum (map (leaves_of d) ts) = ap leaves_in (fold-Tuple Measure (measure_over known) ts) ∙ ap sum (map_twice leaves_in (measure_of d) ts) in
      let height : height_of d (type.Tuple ts) ≡ 1 + largest (map (height_of d) ts) = fold-Tuple ℕ (over height_layer named_height) ts in
      let few : leaves_of d (type.Tuple ts) ≤ LEAVES = r.leaves in
      let low : height_of d (type.Tuple ts) < levels + 1 = r.height in
      let most = largest_within (map (leaves_of d) ts) in
      each_readable d levels r.runnable ts (all_plain ts ∙ sym (fold-Tuple Bool has_no_address_over ts) ∙ r.plain) (omega arith) (omega arith)

-- declared types

module _ (m : Module) (run : IsRunnable m) where
  abbrev decls : Declarations
  decls = declarations_of m

  declared_height : (name : Name) (x : Decl) → decl_of decls name ≡ Some x
      → height_of decls (type.Named name) ≡ decl_with height_layer (named_within height_layer decls (length (all_decls decls))) (Some x)
  declared_height name x e =
      told_named height_layer decls (no_ring m run.declared) name
      ∙ ap (decl_with height_layer (named_within height_layer decls (length (all_decls decls)))) e

  fields_height : (fields : List Field) → map (λ f. height_of decls f.ty) fields ≡ map (height_of decls) (map field_type fields)
  fields_height fields = sym (map_twice (height_of decls) field_type fields)

  payload_height : (t : Option TypeName) → option_to_list (option_map (height_of decls) t) ≡ map (height_of decls) (option_to_list t)
  payload_height None = refl
  payload_height (Some t) = refl

  cases_height : (cases : List Case)
      → flat_map payload_heights (map (case_with height_layer (named_within height_layer decls (length (all_decls decls)))) cases)
      ≡ map (height_of decls) (flat_map payload_types cases)
  cases_height [] = refl
  cases_height (c ∷ cases) =
      ap₂ (λ a b. a ++ b) (payload_height c.payload) (cases_height cases)
      ∙ sym (map-append (height_of decls) (payload_types c) (flat_map payload_types cases))

  fields_readable : (levels : ℕ) (name n : Name) (fields : List Field) → decl_of decls name ≡ Some (decl.Struct n fields)
      → IsReadable decls (levels + 1) (type.Named name) → Each (IsReadable decls levels) (map field_type fields)
  fields_readable levels name n fields e r =
      let leaves = struct_leaves m run name n fields r.plain e in
      let height : height_of decls (type.Named name) ≡ 1 + largest (map (height_of decls) (map field_type fields)) =
      declared_height name (decl.Struct n fields) e ∙ ap (λ ns. 1 + largest ns) (fields_height fields) in
      let few : leaves_of decls (type.Named name) ≤ LEAVES = r.leaves in
      let low : height_of decls (type.Named name) < levels + 1 = r.height in
      let most = largest_within (map (leaves_of decls) (map field_type fields)) in
      each_readable decls levels r.runnable (map field_type fields) (declared_plain m run name (decl.Struct n fields) e) (omega arith) (omega arith)

  payloads_readable : (levels : ℕ) (name n : Name) (cases : List Case) → decl_of decls name ≡ Some (decl.Enum n cases)
      → IsReadable decls (levels + 1) (type.Named name) → Each (IsReadable decls levels) (flat_map payload_types cases)
  payloads_readable levels name n cases e r =
      let leaves = enum_leaves m run name n cases r.plain e in
      let height : height_of decls (type.Named name) ≡ 1 + largest (map (height_of decls) (flat_map payload_types cases)) =
      declared_height name (decl.Enum n cases) e ∙ ap (λ ns. 1 + largest ns) (cases_height cases) in
      let few : leaves_of decls (type.Named name) ≤ LEAVES = r.leaves in
      let low : height_of decls (type.Named name) < levels + 1 = r.height in
      each_readable decls levels r.runnable (flat_map payload_types cases) (declared_plain m run name (decl.Enum n cases) e) (omega arith) (omega arith)

pub struct_parts : (d : Declarations) → IsOfRunnable d → (levels : ℕ) (name n : Name) (fields : List Field) → decl_of d name ≡ Some (decl.Struct n fields)
    → IsReadable d (levels + 1) (type.Named name) → Each (IsReadable d levels) (map field_type fields)
struct_parts = of_module
    (λ d. (levels : ℕ) (name n : Name) (fields : List Field) → decl_of d name ≡ Some (decl.Struct n fields)
    → IsReadable d (levels + 1) (type.Named name) → Each (IsReadable d levels) (map field_type fields))
    fields_readable

pub enum_parts : (d : Declarations) → IsOfRunnable d → (levels : ℕ) (name n : Name) (cases : List Case) → decl_of d name ≡ Some (decl.Enum n cases)
    → IsReadable d (levels + 1) (type.Named name) → Each (IsReadable d levels) (flat_map payload_types cases)
enum_parts = of_module
    (λ d. (levels : ℕ) (name n : Name) (cases : List Case) → decl_of d name ≡ Some (decl.Enum n cases)
    → IsReadable d (levels + 1) (type.Named name) → Each (IsReadable d levels) (flat_map payload_types cases))
    payloads_readable
