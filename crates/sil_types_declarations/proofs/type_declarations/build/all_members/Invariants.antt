use Rattle.std.proofs.Common.{◌≡◌, take, drop, map}
use Rattle.numbered_form.specs.Lists.{Each}
use Rattle.numbered_form.specs.Names.{member_names, AreMembersOnce}
use Rattle.sil_types_declarations.proofs.type_declarations.build.all_members.Given as goal

abbrev pub invariant-loop-decl : goal.invariant-loop-decl
invariant-loop-decl l = (l.members ≡ map member_names (take l.decl-index l.decls)) × Each AreMembersOnce (drop l.decl-index l.decls)
