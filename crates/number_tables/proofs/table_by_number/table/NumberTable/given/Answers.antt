use Rattle.std.proofs.Common.{length, ap, sym, ◌∙◌}
use Rattle.number_tables.specs.TableByNumber.Numbers.{Numbers}
use Rattle.number_tables.proofs.TableByNumber.Views.{count_given}
use Rattle.number_tables.proofs.table_by_number.table.NumberTable.given.Goals as goal

pub returns : goal.returns
returns c = sym (count_given c.self.inside.mask c.self.inside.entries.items c.self.inside.given) ∙ ap (λ (t : Numbers). length t.places) c.self.view_is
