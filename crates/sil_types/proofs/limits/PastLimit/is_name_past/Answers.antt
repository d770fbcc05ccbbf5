use Rattle.std.proofs.Common.{sym, ◌∙◌}
use Rattle.sil_types.proofs.limits.PastLimit.is_name_past.Goals as goal

pub returns-else-self : goal.returns-else-self
returns-else-self c = c.if-self.false ∙ sym (c.args.self.now.names c.if-self.false c.args.name.now)
