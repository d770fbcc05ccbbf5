-- What is shown of a function's values: one case for each group of rules.
use Rattle.std.specs.Prelude.{◌≡◌, ℕ, List, [], ◌∷◌, ◌++◌, Bool, true, false, not, ◌||◌, length, None}
use Rattle.sil_ast.specs.declared.function.Function.{Function}
use Rattle.sil_cfg.specs.declared.item.Item.{Item}
use Rattle.numbered_form.specs.Numbering.{values_of}
use Rattle.sil_rules.specs.Order.{key_in_function}
use Rattle.sil_rules.specs.Rules.{group_of}
use Rattle.sil_rules.specs.declared.group.Group.{Group}
use Rattle.sil_rules.specs.declared.group.Group.TheVariants as group
use Rattle.sil_rules.specs.declared.rule.Rule.{Rule}
use Rattle.sil_rules.specs.declared.rule_faults.fault.RuleFault.{RuleFault}
use Rattle.ownership_kinds.specs.sil_types_declarations.TypeDefinitions.Declarations.{Declarations}
use Rattle.value_availability.specs.reach_engine_marks.PathChecks.First as paths
use Rattle.value_availability.specs.reach_engine_marks.declared.path_checks.entry.Entry.{Entry}
use Rattle.value_availability.specs.Accesses.{accesses_of}
use Rattle.ownership_kinds.specs.ownership_kinds_origins.Facts.{facts_in}
use Rattle.ownership_kinds.specs.Statics as kinds
use Rattle.lifetime_worklist.specs.Lives.{lives_of}
use Rattle.borrow_scopes.specs.Others.{other_of}
use Rattle.borrow_scopes.specs.Scopes.{scopes_of}
use Rattle.memory_rules.specs.memory_rules_accesses.Sources.{sources_of}
use Rattle.memory_rules.specs.Broken as breaks
use Rattle.memory_rules.specs.Statics.{is_static}

-- what an item does to the Owned values, by the facts of the function itself
abbrev pub lives_in : Declarations → Function → Item → List Entry
lives_in d f = lives_of (length (values_of f.blocks)) (facts_in d f) f

-- what an item does to the scopes
abbrev pub scopes_in : Declarations → Function → Item → List Entry
scopes_in d f = scopes_of (length (values_of f.blocks)) (facts_in d f) f

abbrev pub is_of_kinds : Group → Bool
is_of_kinds group.Declarations = false
is_of_kinds group.Finiteness = false
is_of_kinds group.Typing = false
is_of_kinds group.Deinitialisers = false
is_of_kinds group.Definitions = false
is_of_kinds group.Kinds = true
is_of_kinds group.Lifetimes = false
is_of_kinds group.Scopes = false
is_of_kinds group.Memory = false

-- rules on kinds, and 608 and 611, hold whether a walk goes there or not, and have none
abbrev pub has_walk : Rule → Bool
has_walk r = not (is_of_kinds (group_of r) || is_static r)

-- in the function a rule on its values is broken: 301 on a walk; 302 to 305 at a point, with no walk; 401 to 404 on a walk; 501 to 505 on a
-- walk, with the other value that takes part at the item that breaks it; and 601 to 611, of which 608 and 611 are at a point, with no walk
pub data IsShownIn (d : Declarations) (f : Function) (s : RuleFault) : Type 0 where
  undefined : s.other ≡ None → paths.IsShown f (accesses_of f) s.subject.0 s.rule s.walk s.point → IsShownIn d f s
  kind : s.other ≡ None → s.walk ≡ [] → kinds.IsBroken d f s.rule s.subject s.point.block.0 s.point.index → IsShownIn d f s
  life : s.other ≡ None → paths.IsShown f (lives_in d f) s.subject.0 s.rule s.walk s.point → IsShownIn d f s
  scope : (item : Item) → s.other ≡ other_of s.rule (facts_in d f) f s.subject item
      → paths.IsShownAt f (scopes_in d f) s.subject.0 s.rule s.walk s.point item → IsShownIn d f s
  memory : breaks.IsBroken (sources_of d f) (facts_in d f) f s → IsShownIn d f s

-- of one value and rule: one on kinds by its point, as are 608 and 611, and one on walks by the number of edges
abbrev pub last_key : Group → RuleFault → List ℕ
last_key group.Declarations s = []
last_key group.Finiteness s = []
last_key group.Typing s = []
last_key group.Deinitialisers s = []
last_key group.Definitions s = length s.walk ∷ []
last_key group.Kinds s = s.point.block.0 ∷ s.point.index ∷ []
last_key group.Lifetimes s = length s.walk ∷ []
last_key group.Scopes s = length s.walk ∷ []
last_key group.Memory s = breaks.last_key s.rule s.walk s.point

-- within a function by group, by value, by rule, and then so
abbrev pub inner_key : RuleFault → List ℕ
inner_key s = key_in_function s.subject.0 s.rule ++ last_key (group_of s.rule) s
