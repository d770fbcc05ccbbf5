-- The rules on declarations and on the types that a module mentions, and the limits on types.
use Rattle.std.specs.Prelude.{◌≡◌, ℕ, ◌+◌, ◌-◌, ◌≤◌, ◌<◌, List, Bool, true, false, not, ◌&&◌, ◌||◌, Option, All, length, nat_le}
use Rattle.std.specs.List.{list_any, list_all}
use Rattle.std.specs.Option.{option_to_list}
use Rattle.std.specs.Str.{bytes_eq}
use Rattle.sil_ast.specs.declared.decl.Decl.{Decl}
use Rattle.sil_ast.specs.declared.member.Member.{Member}
use Rattle.sil_ast.specs.declared.module.Module.{Module}
use Rattle.sil_ast.specs.declared.type_name.TypeName.{TypeName, fold-TypeName, out-TypeName}
use Rattle.sil_ast.specs.declared.type_name.TypeName.TheOpen.{TypeName-F, Int, Named, Optional, Tuple, Weak, Unowned, Address}
use Rattle.sil_ast.specs.declared.vtable.DeinitEntry.{DeinitEntry}
use Rattle.number_tables.specs.ContainmentOrder.Chains.{IsCyclic}
use Rattle.sil_rules.specs.declared.limits.TheConstants.{DEPTH, LEAVES}
use Rattle.numbered_form.specs.Names.{superclass_in}
use Rattle.sil_types_declarations.specs.declared.type_definitions.standing.Standing.{Standing}
use Rattle.sil_types_declarations.specs.declared.type_definitions.standing.Standing.TheVariants.{Object, WeakField, UnownedField, Slot, Value, Unwritten}
use Rattle.sil_types_declarations.specs.TypeDefinitions.Contained.{containment}
use Rattle.sil_types_declarations.specs.TypeDefinitions.Declarations.{Declarations, declarations_of, swift_structs, decl_of, is_class, is_longer, members_of}
use Rattle.sil_types_declarations.specs.TypeDefinitions.Declarations.{has_member}
use Rattle.sil_types_declarations.specs.TypeDefinitions.Measures.{leaves_of, depth_of}
use Rattle.sil_types_declarations.specs.TypeDefinitions.Mentions.{Mention, Item, decl, function, vtable, items_of, mentioned_by, members_named_by, mentions_of}
use Rattle.std.specs.Prelude.{is_some}

-- 101

-- each name in the type is declared, and `Optional` is where the text has it
abbrev pub is_declared_over : Declarations → TypeName-F Bool → Bool
is_declared_over d (Int width) = true
is_declared_over d (Named name) = is_some (decl_of d name)
is_declared_over d (Optional target) = d.swift && target
is_declared_over d (Tuple parts) = list_all (λ b. b) parts
is_declared_over d (Weak target) = target
is_declared_over d (Unowned target) = target
is_declared_over d (Address target) = target

abbrev pub is_declared : Declarations → TypeName → Bool
is_declared d = fold-TypeName Bool (is_declared_over d)

abbrev pub is_written : Standing → Bool
is_written Unwritten = false
is_written _ = true

-- the text writes a type with a name in it that isn't declared
abbrev pub is_unknown : Declarations → Mention → Bool
is_unknown d t = is_written t.standing && not (is_declared d t.ty)

abbrev pub has_unknown_owner : Declarations → Member → Bool
has_unknown_owner d r = not (is_some (members_of d r.owner))

abbrev pub is_no_class : Declarations → List ℕ → Bool
is_no_class d name = not (is_class d name)

-- its superclass is no class, or it is the vtable of none
abbrev pub is_of_unknown_class : Declarations → Item → Bool
is_of_unknown_class d (decl x) = list_any (is_no_class d) (option_to_list (superclass_in x))
is_of_unknown_class d (function f) = false
is_of_unknown_class d (vtable v) = is_no_class d v.class_name

-- 101: a type, the T of an instruction's `#T.m`, a superclass, or a vtable's class isn't declared
abbrev pub has_unknown_type : Declarations → Item → Bool
has_unknown_type d i = list_any (is_unknown d) (mentioned_by i) || list_any (has_unknown_owner d) (members_named_by i) || is_of_unknown_class d i

-- 103

abbrev pub is_no_member : Declarations → Member → Bool
is_no_member d r = not (has_member d r.owner r.name)

abbrev pub names_other_class : List ℕ → DeinitEntry → Bool
names_other_class class_name e = not (bytes_eq e.owner class_name)

abbrev pub has_entry_of_other : Item → Bool
has_entry_of_other (decl x) = false
has_entry_of_other (function f) = false
has_entry_of_other (vtable v) = list_any (names_other_class v.class_name) (option_to_list v.entry)

-- 103: a `#T.m` names no member of T, or a vtable's entry names another class
abbrev pub has_bad_member : Declarations → Item → Bool
has_bad_member d i = list_any (is_no_member d) (members_named_by i) || has_entry_of_other i

-- 104

abbrev pub has_storage_over : TypeName-F Bool → Bool
has_storage_over (Int width) = false
has_storage_over (Named name) = false
has_storage_over (Optional target) = target
has_storage_over (Tuple parts) = list_any (λ b. b) parts
has_storage_over (Weak target) = true
has_storage_over (Unowned target) = true
has_storage_over (Address target) = target

-- weak or unowned storage stands in the type
abbrev pub has_storage : TypeName → Bool
has_storage = fold-TypeName Bool has_storage_over

abbrev pub is_class_layer : Declarations → TypeName-F TypeName → Bool
is_class_layer d (Named name) = is_class d name
is_class_layer d _ = false

-- the type is a class
abbrev pub is_class_type : Declarations → TypeName → Bool
is_class_type d t = is_class_layer d (out-TypeName t)

abbrev pub is_optional_class_layer : Declarations → TypeName-F TypeName → Bool
is_optional_class_layer d (Optional target) = is_class_type d target
is_optional_class_layer d _ = false

-- the type is Optional of a class
abbrev pub is_optional_class : Declarations → TypeName → Bool
is_optional_class d t = is_optional_class_layer d (out-TypeName t)

abbrev pub is_misplaced_layer : Declarations → TypeName → TypeName-F TypeName → Bool
is_misplaced_layer d t (Weak target) = not (is_optional_class d target)
is_misplaced_layer d t (Unowned target) = not (is_class_type d target)
is_misplaced_layer d t _ = has_storage t

-- storage may stand here, but not deeper, and only weak storage of an Optional of a class and unowned storage of a class
abbrev pub is_misplaced_in_storage : Declarations → TypeName → Bool
is_misplaced_in_storage d t = is_misplaced_layer d t (out-TypeName t)

abbrev pub is_misplaced_value_layer : Declarations → TypeName → TypeName-F TypeName → Bool
is_misplaced_value_layer d t (Address target) = is_misplaced_in_storage d target
is_misplaced_value_layer d t _ = has_storage t

abbrev pub is_misplaced_value : Declarations → TypeName → Bool
is_misplaced_value d t = is_misplaced_value_layer d t (out-TypeName t)

abbrev pub is_misplaced_at : Declarations → Standing → TypeName → Bool
is_misplaced_at d Object t = has_storage t
is_misplaced_at d WeakField t = not (is_optional_class d t)
is_misplaced_at d UnownedField t = not (is_class_type d t)
is_misplaced_at d Slot t = is_misplaced_in_storage d t
is_misplaced_at d Value t = is_misplaced_value d t
is_misplaced_at d Unwritten t = false

abbrev pub is_misplaced : Declarations → Mention → Bool
is_misplaced d t = is_misplaced_at d t.standing t.ty

-- 104: `@sil_weak` or `@sil_unowned` stands elsewhere than directly in `alloc_stack` or an address; a weak field's type, or the type
-- after `@sil_weak`, isn't Optional of a class; an unowned field's type, or the type after `@sil_unowned`, isn't a class
abbrev pub has_misplaced_storage : Declarations → Item → Bool
has_misplaced_storage d i = list_any (is_misplaced d) (mentioned_by i)

-- 102

-- 102: the declaration with this number among those of the text is a struct or enum that holds itself without a class between, or a class that
-- is its own ancestor
abbrev pub HoldsItself : Declarations → ℕ → Type 0
HoldsItself d n = IsCyclic (containment d) (length (swift_structs d.swift) + n)

-- all four

-- the item breaks none of 101, 103 and 104
pub record IsWellNamed (d : Declarations) (i : Item) : Type 0 where
  pub known : has_unknown_type d i ≡ false
  pub members : has_bad_member d i ≡ false
  pub storage : has_misplaced_storage d i ≡ false

-- no case of 101 to 104 holds
pub record Declared (m : Module) : Type 0 where
  pub items : All (IsWellNamed (declarations_of m)) (items_of m)
  pub finite : (n : ℕ) → HoldsItself (declarations_of m) n → ⊥

-- the limits

abbrev pub is_too_deep : Declarations → Mention → Bool
is_too_deep d t = not (nat_le (depth_of d t.ty) DEPTH)

abbrev pub has_too_many_leaves : Declarations → Mention → Bool
has_too_many_leaves d t = not (nat_le (leaves_of d t.ty) LEAVES)

-- a class that stands with its ancestors in a chain that is longer than the limit
abbrev pub is_too_low : Declarations → Decl → Bool
is_too_low d x = is_longer d (DEPTH - 1) (superclass_in x)

-- a type that the module mentions is deeper than the limit, or a chain of classes is longer
abbrev pub exceeds_depth : Module → Bool
exceeds_depth m = list_any (is_too_deep (declarations_of m)) (mentions_of m) || list_any (is_too_low (declarations_of m)) m.decls

-- a type that the module mentions has more leaves than the limit
abbrev pub exceeds_leaves : Module → Bool
exceeds_leaves m = list_any (has_too_many_leaves (declarations_of m)) (mentions_of m)

-- every type that the module mentions is within the limits on depth and leaves, and every class has fewer ancestors than the limit on depth
pub record InLimits (m : Module) : Type 0 where
  pub depth : exceeds_depth m ≡ false
  pub leaves : exceeds_leaves m ≡ false

-- the declarations are m's, and m is one whose types are declared, finite and within the limits
pub record AreDeclarationsOf (d : Declarations) (m : Module) : Type 0 where
  pub copied : d ≡ declarations_of m
  pub declared : Declared m
  pub limits : InLimits m
