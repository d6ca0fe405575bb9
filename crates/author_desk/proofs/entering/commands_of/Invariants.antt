use Rattle.std.proofs.Common.{◌≡◌, map, take}
use Rattle.grove_edits.specs.declared.command.Command.TheVariants.{Act}
use Rattle.author_desk.proofs.entering.commands_of.Given as goal

-- the commands of the lines so far
abbrev pub invariant-loop-line : goal.invariant-loop-line
invariant-loop-line l = l.commands.items ≡ map Act (take l.line-index l.lines)
