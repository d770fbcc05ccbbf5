-- Entries that items share: one for each subject at most, given by the subjects' marks.
use Rattle.std.specs.Prelude.{ℕ, ◌+◌, List, [], ◌∷◌, ◌++◌, Bool, true, false, slice_index_or, Option, Some, None}
use Rattle.number_tables.specs.PathLists.inner.Lists.{list_at}
use Rattle.reach_engine_marks.specs.declared.path_patterns.mark.Mark.{Mark}
use Rattle.reach_engine_marks.specs.declared.path_checks.entry.Entry.{Entry}

abbrev pub entry_if : ℕ → Option Mark → List Entry
entry_if subject None = []
entry_if subject (Some mark) = record { subject = subject; mark = mark } ∷ []

-- the entries of the subjects from n on that have a mark
abbrev pub shared_from : ℕ → List (Option Mark) → List Entry
shared_from n [] = []
shared_from n (mark ∷ marks) = entry_if n mark ++ shared_from (n + 1) marks

-- these entries, if the item shares
abbrev pub if_sharing : List Entry → Bool → List Entry
if_sharing shared true = shared
if_sharing shared false = []

-- those of all subjects that have a mark, if the item shares
abbrev pub shared_if : List (Option Mark) → Bool → List Entry
shared_if marks shares = if_sharing (shared_from 0 marks) shares

-- the item's number is marked as one that shares
abbrev pub is_sharing : List Bool → ℕ → Bool
is_sharing sharing i = slice_index_or sharing i false

-- the item's own entries, and behind them these if it shares
abbrev pub entries_among : List (List Entry) → List Entry → List Bool → ℕ → List Entry
entries_among own shared sharing i = list_at own i ++ if_sharing shared (is_sharing sharing i)

-- the item's own entries, and behind them the shared ones if it shares
abbrev pub entries_with : List (List Entry) → List (Option Mark) → List Bool → ℕ → List Entry
entries_with own marks sharing i = list_at own i ++ shared_if marks (is_sharing sharing i)
