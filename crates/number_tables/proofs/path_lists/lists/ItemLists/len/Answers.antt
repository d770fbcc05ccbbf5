use Rattle.std.proofs.Common.{◌≡◌, sym, ap, ◌∙◌, length, arith}
use Rattle.number_tables.proofs.PathLists.Ends.{count_is}
use Rattle.number_tables.proofs.path_lists.lists.ItemLists.len.Goals as goal

pub returns : goal.returns
returns g c =
    let count : c.len.result ≡ length c.self.inside.ends.items = omega arith in
    count ∙ sym (count_is 0 c.self.inside.elements.items c.self.inside.ends.items) ∙ ap length c.self.view_is
