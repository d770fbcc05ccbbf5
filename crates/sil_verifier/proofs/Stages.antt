-- The stages of the checks come one behind the other, as the first number of a key tells: so what is first in a stage is the first of all
-- that is wrong, where the stages before it find nothing.
use Rattle.std.proofs.Common.{ℕ, ◌+◌, ◌≤◌, List, [], ◌∷◌, arith, inl, inr}
use Rattle.sil_ast.specs.declared.module.Module.{Module}
use Rattle.sil_rules.specs.declared.rule_faults.fault.RuleFault.{RuleFault}
use Rattle.sil_rules.specs.Order.{IsLeast, NotAfter}
use Rattle.sil_rules.specs.declared.limit_word.LimitWord.{LimitWord}
use Rattle.sil_rules.specs.declared.rule.Rule.{Rule}
use Rattle.sil_types.specs.Refusals.{ShownIn, refusal_key}
use Rattle.sil_types.specs.Refusals.ShownIn.{item as shown_item, infinite, too_deep, too_wide}
use Rattle.sil_types.specs.Typing.Typed.{BreaksAt, Site}
use Rattle.sil_types.specs.Typing.Typed.BreaksAt.{function, point, vtable}
use Rattle.sil_types.specs.declared.refusal.TypeRefusal.{TypeRefusal}
use Rattle.sil_types.specs.declared.refusal.TypeRefusal.TheVariants as refusal
use Rattle.type_check.proofs.FirstFaults.{stage_at_function, stage_at_point}
use Rattle.type_check.specs.Refusals.{fault_at, fault_key}
use Rattle.type_check.specs.Refusals.IsBroken.{broken}
use Rattle.type_check.specs.declared.fault.TypingFault.{TypingFault}
use Rattle.sil_types_declarations.specs.TypeDefinitions.Declarations.{declarations_of}
use Rattle.sil_types_declarations.specs.TypeDefinitions.Mentions.{items_of}
use Rattle.sil_types_items.proofs.TypeItemRules.FirstFaults.{stage_at}
use Rattle.sil_verifier_accepted.proofs.AcceptedModules.DeclaredTypes.{declared_not_refused, typed_not_wrong}
use Rattle.sil_verifier_accepted.proofs.AcceptedModules.Groups.{stage_told}
use Rattle.sil_verifier_accepted.specs.AcceptedModules.Findings.{Finding, item, limit, typing, value, IsFound, Refusal, finding_key}
use Rattle.sil_verifier_accepted.specs.AcceptedModules.Refusals.{HasDeclaredTypes, HasTypes, IsWrong}
use Rattle.sil_verifier_accepted.specs.AcceptedModules.Refusals.IsLowered.{lowered}
use Rattle.sil_verifier_accepted.specs.AcceptedModules.Values.{IsShown, ModuleShowing, showing_key}

-- the first number of a key is at most this, or at least
abbrev IsAtMost : ℕ → List ℕ → Type 0
IsAtMost k [] = ⊥
IsAtMost k (n ∷ ns) = n ≤ k

abbrev IsAtLeast : ℕ → List ℕ → Type 0
IsAtLeast k [] = ⊥
IsAtLeast k (n ∷ ns) = k ≤ n

apart : (k : ℕ) (xs ys : List ℕ) → IsAtMost k xs → IsAtLeast (k + 1) ys → NotAfter xs ys
apart k [] ys low high = absurd low
apart k (x ∷ xs) [] low high = absurd high
apart k (x ∷ xs) (y ∷ ys) low high = inl (omega (arith, low, high))

module _ (m : Module) where
  -- items and limits come in the stages 1 to 3
  types_stage : (e : TypeRefusal) → ShownIn m e → IsAtMost 3 (refusal_key e)
  types_stage _ (shown_item r n b) = let one = stage_at (declarations_of m) (items_of m) (record { item = n; rule = r }) n b in omega (arith, one)
  types_stage _ (infinite n h) = omega arith
  types_stage _ (too_deep e) = omega arith
  types_stage _ (too_wide e) = omega arith

  broken_stage : (s : Site) (r : Rule) → BreaksAt m s r → IsAtLeast 4 (fault_key (fault_at s r)) × IsAtMost 5 (fault_key (fault_at s r))
  broken_stage _ _ (function n f r there b) = let four = stage_at_function m n f r b in (omega (arith, four), omega (arith, four))
  broken_stage _ _ (point n f block index i r there at b) = let four = stage_at_point m n f block index i r b in (omega (arith, four), omega (arith, four))
  broken_stage _ _ (vtable n v r there b) = (omega arith, omega arith)

  -- faults of typing come in the stages 4 and 5
  typing_stage : (f : TypingFault) → IsWrong m f → IsAtLeast 4 (fault_key f) × IsAtMost 5 (fault_key f)
  typing_stage _ (inl (broken s r b)) = broken_stage s r b
  typing_stage _ (inr (lowered n f there e)) = (omega arith, omega arith)

  -- and values in the stage 6
  value_stage : (p : ModuleShowing) → IsShown m p → IsAtLeast 6 (showing_key p)
  value_stage p h = let six = stage_told (declarations_of m) h.within p.showing h.shown in omega (arith, six)

  behind_types : (key : List ℕ) → IsAtMost 3 key → ((e : TypeRefusal) → ShownIn m e → NotAfter key (refusal_key e)) → (x : Finding) → IsFound m x → NotAfter key (finding_key x)
  behind_types key low first (item r n) found = first (refusal.Rule r n) found
  behind_types key low first (limit what) found = first (refusal.Limit what) found
  behind_types key low first (typing f) found = apart 3 key (fault_key f) low (typing_stage f found).0
  behind_types key low first (value n s) found = let late = value_stage (record { function = n; showing = s }) found in apart 3 key _ low (omega (arith, late))

  -- the first of items and limits
  pub first_item : (r : Rule) (n : ℕ) → IsLeast refusal_key (ShownIn m) (refusal.Rule r n) → Refusal m (item r n)
  first_item r n least = record { shown = least.shown; first = behind_types (refusal_key (refusal.Rule r n)) (types_stage (refusal.Rule r n) least.shown) least.first }

  pub first_limit : (what : LimitWord) → IsLeast refusal_key (ShownIn m) (refusal.Limit what) → Refusal m (limit what)
  first_limit what least = record { shown = least.shown; first = behind_types (refusal_key (refusal.Limit what)) (types_stage (refusal.Limit what) least.shown) least.first }

  -- the first fault of typing, where items and types are right
  pub first_typing : (f : TypingFault) → HasDeclaredTypes m → IsLeast fault_key (IsWrong m) f → Refusal m (typing f)
  first_typing f types least = record { shown = least.shown; first = behind }
    where
      behind : (x : Finding) → IsFound m x → NotAfter (fault_key f) (finding_key x)
      behind (item r n) found = absurd (declared_not_refused m (refusal.Rule r n) types found)
      behind (limit what) found = absurd (declared_not_refused m (refusal.Limit what) types found)
      behind (typing g) found = least.first g found
      behind (value n s) found = apart 5 (fault_key f) _ (typing_stage f least.shown).1 (value_stage (record { function = n; showing = s }) found)

  -- the first broken rule on values, where typing is right too
  pub first_value : (n : ℕ) (s : RuleFault) → HasTypes m → IsLeast showing_key (IsShown m) (record { function = n; showing = s }) → Refusal m (value n s)
  first_value n s types least = record { shown = least.shown; first = behind }
    where
      behind : (x : Finding) → IsFound m x → NotAfter (finding_key (value n s)) (finding_key x)
      behind (item r k) found = absurd (declared_not_refused m (refusal.Rule r k) types.declared found)
      behind (limit what) found = absurd (declared_not_refused m (refusal.Limit what) types.declared found)
      behind (typing g) found = absurd (typed_not_wrong m g types found)
      behind (value k t) found = least.first (record { function = k; showing = t }) found
