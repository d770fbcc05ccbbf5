-- How pieces of text stand together.
use Rattle.std.specs.Prelude.{ℕ, ◌==◌, List, [], ◌∷◌, ◌++◌, Option, Some, None, Bool, if◌then◌else◌, codes}
use Rattle.std.specs.List.{flat_map, join_by}

abbrev pub line_feed : List ℕ
line_feed = 10 ∷ []

abbrev pub quote : List ℕ
quote = 34 ∷ []

-- the text, and the end of its line
abbrev pub line : List ℕ → List ℕ
line text = text ++ line_feed

-- what stands before the i-th of some items: nothing before the first
abbrev pub separator_before : List ℕ → ℕ → List ℕ
separator_before separator i = if i == 0 then [] else separator

-- the texts of some items, with a comma and a space between two
abbrev pub listed : {A : Type 0} → (A → List ℕ) → List A → List ℕ
listed text items = join_by text (codes ", ") items

-- the same in parentheses
abbrev pub in_parens : {A : Type 0} → (A → List ℕ) → List A → List ℕ
in_parens text items = codes "(" ++ listed text items ++ codes ")"

-- the same, and nothing where there is no item
abbrev pub parens_if_any : {A : Type 0} → (A → List ℕ) → List A → List ℕ
parens_if_any text [] = []
parens_if_any text (item ∷ items) = in_parens text (item ∷ items)

-- `class C {`, a line
abbrev pub opening : List ℕ → List ℕ → List ℕ
opening word name = line (word ++ name ++ codes " {")

-- the texts of some items, each behind the same bytes
abbrev pub each_behind : {A : Type 0} → List ℕ → (A → List ℕ) → List A → List ℕ
each_behind lead text items = flat_map (λ item. lead ++ text item) items

-- each item on a line of its own, two spaces in
abbrev pub indented : {A : Type 0} → (A → List ℕ) → List A → List ℕ
indented text items = each_behind (codes "  ") (λ item. line (text item)) items

-- the text of an item behind some bytes, and nothing where there is no item
abbrev pub if_there : {A : Type 0} → List ℕ → (A → List ℕ) → Option A → List ℕ
if_there lead text None = []
if_there lead text (Some item) = lead ++ text item

-- a word that stands only where its flag is set
abbrev pub if_set : List ℕ → Bool → List ℕ
if_set word flag = if flag then word else []
