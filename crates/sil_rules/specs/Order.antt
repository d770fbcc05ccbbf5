-- The order of refusals: each has a key, and of all that are shown the first by its key is answered.
use Rattle.std.specs.Prelude.{◌≡◌, ◌⊎◌, ℕ, ◌<◌, List, [], ◌∷◌, ⊤, Option, Some, None}
use Rattle.sil_rules.specs.declared.group.Group.{Group}
use Rattle.sil_rules.specs.declared.group.Group.TheVariants as group
use Rattle.sil_rules.specs.declared.rule.Rule.{Rule}
use Rattle.sil_rules.specs.Rules.{number_of, group_of, group_number}

-- the first list of numbers comes before the second one, or is it
abbrev pub NotAfter : List ℕ → List ℕ → Type 0
NotAfter [] ys = ⊤
NotAfter (x ∷ xs) [] = ⊥
NotAfter (x ∷ xs) (y ∷ ys) = (x < y) ⊎ ((x ≡ y) × NotAfter xs ys)

-- this one is shown, and nothing that is shown comes before it
pub record IsLeast {A : Type 0} (key : A → List ℕ) (Shown : A → Type 0) (a : A) : Type 0 where
  pub shown : Shown a
  pub first : (other : A) → Shown other → NotAfter (key a) (key other)

-- the first that is shown, if any is
abbrev pub IsFirst : {A : Type 0} → (A → List ℕ) → (A → Type 0) → Option A → Type 0
IsFirst {A} key Shown None = (a : A) → ¬ Shown a
IsFirst key Shown (Some a) = IsLeast key Shown a

-- what is shown in one of two ways
abbrev pub Either : {A : Type 0} → (A → Type 0) → (A → Type 0) → A → Type 0
Either One Other a = One a ⊎ Other a

-- the result is one of the two, and the other one doesn't come before it
abbrev pub IsEarlier : {A : Type 0} → (A → List ℕ) → Option A → Option A → Option A → Type 0
IsEarlier key None b result = result ≡ b
IsEarlier key (Some a) None result = result ≡ Some a
IsEarlier key (Some a) (Some b) result = ((result ≡ Some a) × NotAfter (key a) (key b)) ⊎ ((result ≡ Some b) × NotAfter (key b) (key a))

-- the stage of a group. The third one is for the limits on depth and leaves, and the sixth goes function by function
abbrev pub stage_of : Group → ℕ
stage_of group.Declarations = 1
stage_of group.Finiteness = 2
stage_of group.Typing = 4
stage_of group.Deinitialisers = 5
stage_of group.Definitions = 6
stage_of group.Kinds = 6
stage_of group.Lifetimes = 6
stage_of group.Scopes = 6
stage_of group.Memory = 6

-- 101 to 104, by item and then by rule. Items are numbered over declarations, functions and vtables, in that order
abbrev pub item_key : ℕ → Rule → List ℕ
item_key item r = stage_of (group_of r) ∷ item ∷ number_of r ∷ []

-- the limit on depth, and behind it the limit on leaves
abbrev pub depth_key : List ℕ
depth_key = 3 ∷ 0 ∷ []

abbrev pub leaves_key : List ℕ
leaves_key = 3 ∷ 1 ∷ []

-- 201 to 207 and 209 to 212 at a function itself, and behind these at a point of it, by block, index and then by rule
abbrev pub function_key : ℕ → Rule → List ℕ
function_key function r = stage_of (group_of r) ∷ function ∷ 0 ∷ 0 ∷ 0 ∷ number_of r ∷ []

abbrev pub point_key : ℕ → ℕ → ℕ → Rule → List ℕ
point_key function block index r = stage_of (group_of r) ∷ function ∷ 1 ∷ block ∷ index ∷ number_of r ∷ []

-- 208, by vtable
abbrev pub vtable_key : ℕ → List ℕ
vtable_key vtable = stage_of group.Deinitialisers ∷ vtable ∷ []

-- 301 to 611 within a function, by group, by the subject's number and then by rule
abbrev pub key_in_function : ℕ → Rule → List ℕ
key_in_function subject r = group_number (group_of r) ∷ subject ∷ number_of r ∷ []

-- 301 to 611, function by function
abbrev pub subject_key : ℕ → ℕ → Rule → List ℕ
subject_key function subject r = stage_of (group_of r) ∷ function ∷ key_in_function subject r
