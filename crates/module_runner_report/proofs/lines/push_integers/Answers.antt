use Rattle.std.proofs.Common.{◌≡◌, ◌∙◌, ◌++◌, ◌<◌, SFits, ap, arith, codes, get_or, length, pos, rules, w64}
use Rattle.std.proofs.lemmas.Grind.{common_steps}
use Rattle.std.proofs.lemmas.Int.{to_z-of_z}
use Rattle.std.specs.Fmt.{signed_decimal}
use Rattle.sil_printer.proofs.Joined.{join_by_step}
use Rattle.module_runner_report.proofs.lines.push_integers.Goals as goal

pub loop-i-preserved : goal.loop-i-preserved
loop-i-preserved c =
    let numbers = c.args.numbers.now in
    let i = c.loop-i.i in
    let x = get_or numbers i (pos 0) in
    let within : i < length numbers = c.loop-i-test.true in
    let fits : SFits w64 x = search rules in
    let here : x ≡ get_or numbers i x = grind (arith, common_steps) in
    join_by_step signed_decimal (codes ", ") numbers i x _ _ _ _ within here c.loop-i.invariant c.in_ok-push_separator.ensures
    (c.in_ok-push_signed.ensures ∙ ap (λ n. c.push_separator.new.out.items ++ signed_decimal n) (to_z-of_z w64 x fits))
