-- One more call.
use Rattle.std.proofs.Common.{◌≡◌, ◌∙◌, ◌++◌, append-nil, ap, arith, sym}
use Rattle.std.specs.List.{flat_map, range_with_len}
use Rattle.sil_printer.specs.CanonicalInsts.{inst_text}
use Rattle.sil_printer.specs.Words.{indented}
use Rattle.sil_command_generator.specs.GeneratedModules.{call_of, functions_of}
use Rattle.sil_command_generator.proofs.Counted.{one_more_called}
use Rattle.sil_command_generator.proofs.generated.push_calls.Goals as goal

pub loop-k-init : goal.loop-k-init
loop-k-init c = sym (append-nil _)

pub loop-k-preserved : goal.loop-k-preserved
loop-k-preserved c = one_more_called (functions_of c.args.n) c.loop-k.k _ _ _ c.loop-k.invariant (c.in_ok-push_call.ensures c.args.n (omega arith))

pub returns : goal.returns
returns c =
    let all : c.loop-k.k ≡ c.args.n = omega arith in
    c.loop-k.invariant ∙ ap (λ k. c.args.out.now.items ++ indented (inst_text (functions_of c.args.n)) (flat_map call_of (range_with_len 0 k))) all
