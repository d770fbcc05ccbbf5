-- Which of 101, 103 and 104 an item breaks, and the first item that breaks one.
use Rattle.std.specs.Prelude.{◌≡◌, ℕ, ◌+◌, ◌||◌, List, [], ◌∷◌, Bool, true, Option, Some, None, IsSomeAnd, slice_get, if◌then◌else◌}
use Rattle.sil_ast.specs.declared.module.Module.{Module}
use Rattle.sil_rules.specs.Order.{item_key}
use Rattle.sil_rules.specs.declared.rule.Rule.{Rule}
use Rattle.sil_rules.specs.declared.rule.Rule.TheVariants as rule
use Rattle.sil_types_declarations.specs.TypeDefinitions.Declarations.{Declarations}
use Rattle.sil_types_declarations.specs.TypeDefinitions.Mentions.{Item, Mention, items_of}
use Rattle.sil_types_declarations.specs.TypeDefinitions.Rules.{has_unknown_type, has_bad_member, has_misplaced_storage, is_misplaced, is_unknown}
use Rattle.sil_types_items.specs.declared.type_item_rules.by_item.ItemFault.{ItemFault}

-- the item breaks the rule, which is one of the three
pub data Breaks (d : Declarations) (i : Item) : Rule → Type 0 where
  unknown_type : has_unknown_type d i ≡ true → Breaks d i rule.UnknownType
  bad_member : has_bad_member d i ≡ true → Breaks d i rule.BadMember
  misplaced_storage : has_misplaced_storage d i ≡ true → Breaks d i rule.WeakOrUnownedOutsideStorage

-- the item with the fault's number breaks its rule
abbrev pub BreaksIn : Declarations → Module → ItemFault → Type 0
BreaksIn d m f = IsSomeAnd (slice_get (items_of m) f.item) (λ i. Breaks d i f.rule)

-- by item and then by rule
abbrev pub fault_key : ItemFault → List ℕ
fault_key f = item_key f.item f.rule

-- a name in the type isn't declared, or weak or unowned storage is misplaced in it
abbrev pub is_wrong_type : Declarations → Mention → Bool
is_wrong_type d t = is_unknown d t || is_misplaced d t

-- the first of the three that the item breaks
abbrev pub broken_by : Declarations → Item → Option Rule
broken_by d i =
    if has_unknown_type d i then Some rule.UnknownType
    else if has_bad_member d i then Some rule.BadMember
    else if has_misplaced_storage d i then Some rule.WeakOrUnownedOutsideStorage
    else None

abbrev pub fault_or : ℕ → Option Rule → Option ItemFault → Option ItemFault
fault_or n None rest = rest
fault_or n (Some r) rest = Some (record { item = n; rule = r })

-- the first fault of some items, of which the first has this number
abbrev pub fault_from : Declarations → ℕ → List Item → Option ItemFault
fault_from d n [] = None
fault_from d n (i ∷ is) = fault_or n (broken_by d i) (fault_from d (n + 1) is)
