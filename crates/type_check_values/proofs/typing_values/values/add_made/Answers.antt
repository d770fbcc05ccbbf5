use Rattle.std.proofs.Common.{ap, ◌∙◌, []}
use Rattle.std.specs.Prelude.{option_map, unwrap_or}
use Rattle.type_check_rows.specs.inner.Views.{made_told}
use Rattle.type_check_values.specs.TypingValues.inner.Told.{types_told}
use Rattle.type_check_values.proofs.TypingValues.Added.{one_more}
use Rattle.type_check_values.proofs.typing_values.values.add_made.Goals as goal

pub loop-k-preserved : goal.loop-k-preserved
loop-k-preserved c =
    ap types_told c.in_ok-push.ensures.items
    ∙ one_more (types_told c.args.types.now.items) c.loop-k.types.items (unwrap_or (option_map made_told c.args.made.now) []) c.loop-k.k c.result_type.result c.loop-k.invariant c.result_type.ensures
