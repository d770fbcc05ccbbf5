-- The five lines that sum up a module, its optimised module, and a run of each.
use Rattle.std.specs.Prelude.{ℕ, List, ◌++◌, codes, decimal}
use Rattle.sil_command_lines.specs.declared.sums.Totals.{Totals}
use Rattle.sil_command_lines.specs.Texts.{line}

-- `plain events 10 retains 10 releases 20`
abbrev pub totals_line : List ℕ → Totals → List ℕ
totals_line word t = line (word ++ codes " events " ++ decimal t.events ++ codes " retains " ++ decimal t.retains ++ codes " releases " ++ decimal t.releases)

-- how many functions and copies the module has, and copies the optimised one; what both runs show; and that they end alike
abbrev pub summary_text : ℕ → ℕ → ℕ → Totals → Totals → List ℕ
summary_text functions before after plain optimised =
    line (codes "functions " ++ decimal functions) ++ line (codes "copies " ++ decimal before ++ codes " after " ++ decimal after)
    ++ totals_line (codes "plain") plain ++ totals_line (codes "optimized") optimised ++ line (codes "outcomes equal")
