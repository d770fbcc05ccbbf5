-- One more function.
use Rattle.std.proofs.Common.{◌≡◌, ◌∙◌, ◌++◌, append-nil, ap, arith, map, sym}
use Rattle.std.specs.List.{range_with_len}
use Rattle.sil_printer.specs.CanonicalFunctions.{function_text}
use Rattle.sil_printer.specs.Words.{each_behind, line_feed}
use Rattle.sil_command_generator.specs.WorkFunctions.{work}
use Rattle.sil_command_generator.proofs.Counted.{one_more_function}
use Rattle.sil_command_generator.proofs.work.push_all_work.Goals as goal

pub loop-k-init : goal.loop-k-init
loop-k-init c = λ fs. sym (append-nil _)

pub loop-k-preserved : goal.loop-k-preserved
loop-k-preserved c = λ fs. one_more_function fs c.loop-k.k _ _ _ (c.loop-k.invariant fs) (c.in_ok-push_work.ensures fs)

pub returns : goal.returns
returns c = λ fs.
    let all : c.loop-k.k ≡ c.args.n = omega arith in
    c.loop-k.invariant fs ∙ ap (λ k. c.args.out.now.items ++ each_behind line_feed (function_text fs) (map work (range_with_len 0 k))) all
