-- How upcasts are followed one by one, to the value from which all come.
use Rattle.std.proofs.Common.{◌≡◌, ℕ, suc, ◌-◌, ◌<◌, List, length, sym, ap, ◌∙◌, arith, ◌+◌, refl}
use Rattle.sil_ast.specs.declared.place.ValueId.{ValueId}
use Rattle.memory_rules_accesses.specs.declared.source.Source.{Source}
use Rattle.memory_rules_accesses.specs.declared.source.Source.TheVariants.{Upcast}
use Rattle.memory_rules_accesses.specs.Locations.{below, below_by, upcast_from}
use Rattle.memory_rules_accesses.specs.Sources.{source_at}

all_left : (sources : List Source) (v : ValueId) → upcast_from sources v ≡ below sources (length sources) v
unfolding upcast_from
all_left sources v = refl

pub begun : (sources : List Source) (v : ValueId) → upcast_from sources v ≡ below sources (length sources - 0) v
begun sources v =
    let same : length sources ≡ length sources - 0 = omega arith in
    all_left sources v ∙ ap (λ n. below sources n v) same

-- one upcast further
pub further : (sources : List Source) (v at of : ValueId) (i : ℕ) → i < length sources → Upcast of ≡ source_at sources at →
    upcast_from sources v ≡ below sources (length sources - i) at → upcast_from sources v ≡ below sources (length sources - (i + 1)) of
further sources v at of i lt e so_far =
    let left : length sources - i ≡ suc (length sources - (i + 1)) = omega arith in
    so_far ∙ ap (λ n. below sources n at) left ∙ ap (λ s. below_by (below sources (length sources - (i + 1))) at s) (sym e)
