-- What is refused, and in which order.
use Rattle.std.specs.Prelude.{◌≡◌, ℕ, List, [], ⊤, true}
use Rattle.sil_ast.specs.declared.module.Module.{Module}
use Rattle.sil_rules.specs.Order.{IsLeast, depth_key, item_key, leaves_key}
use Rattle.sil_rules.specs.declared.limit_word.LimitWord.{LimitWord}
use Rattle.sil_rules.specs.declared.limit_word.LimitWord.TheVariants as word
use Rattle.sil_rules.specs.declared.rule.Rule.{Rule}
use Rattle.sil_rules.specs.declared.rule.Rule.TheVariants as rule
use Rattle.sil_types_declarations.specs.TypeDefinitions.Declarations.{declarations_of}
use Rattle.sil_types_declarations.specs.TypeDefinitions.Rules.{HoldsItself, exceeds_depth, exceeds_leaves}
use Rattle.sil_types_items.specs.TypeItemRules.Faults.{BreaksIn}
use Rattle.sil_types.specs.declared.refusal.TypeRefusal.{TypeRefusal}
use Rattle.sil_types.specs.declared.refusal.TypeRefusal.TheVariants as refusal

-- what is wrong with a module
pub data ShownIn (m : Module) : TypeRefusal → Type 0 where
  item : (r : Rule) (n : ℕ) → BreaksIn (declarations_of m) m (record { item = n; rule = r }) → ShownIn m (refusal.Rule r n)
  infinite : (n : ℕ) → HoldsItself (declarations_of m) n → ShownIn m (refusal.Rule rule.InfiniteType n)
  too_deep : exceeds_depth m ≡ true → ShownIn m (refusal.Limit word.Depth)
  too_wide : exceeds_leaves m ≡ true → ShownIn m (refusal.Limit word.Leaves)

abbrev pub limit_key : LimitWord → List ℕ
limit_key word.Depth = depth_key
limit_key word.Leaves = leaves_key
limit_key _ = []

-- 101, 103 and 104 by item and then by rule, 102 by item, then depth, then leaves
abbrev pub refusal_key : TypeRefusal → List ℕ
refusal_key (refusal.Rule r n) = item_key n r
refusal_key (refusal.Limit what) = limit_key what
refusal_key refusal.Memory = []

-- the first of what is wrong, unless memory ran out
abbrev pub IsRefusal : Module → TypeRefusal → Type 0
IsRefusal m (refusal.Rule r n) = IsLeast refusal_key (ShownIn m) (refusal.Rule r n)
IsRefusal m (refusal.Limit what) = IsLeast refusal_key (ShownIn m) (refusal.Limit what)
IsRefusal m refusal.Memory = ⊤

-- the refusal is of this rule and item, unless memory ran out
abbrev pub IsRule : Rule → ℕ → TypeRefusal → Type 0
IsRule r n (refusal.Rule s k) = (s ≡ r) × (k ≡ n)
IsRule r n (refusal.Limit what) = ⊥
IsRule r n refusal.Memory = ⊤
