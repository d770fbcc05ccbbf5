use Rattle.std.proofs.Common.{arith}
use Rattle.copy_pairing_search.proofs.borrowable_copies.answers.forget.Goals as goal

pub loop-copy-init : goal.loop-copy-init
loop-copy-init c = record { spared = λ d x known. (known, λ lt. absurd (omega arith)); kept = λ d x known sure. known }
