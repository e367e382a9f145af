-- The code's commands as those of the definitions.
use Rattle.judy_model.specs.CommandWords as model
use Rattle.judy_command.specs.declared.command.KeyCommand.{KeyCommand}
use Rattle.judy_command.specs.declared.command.KeyCommand.TheVariants as on_key
use Rattle.judy_command.specs.declared.command.PairCommand.{PairCommand}
use Rattle.judy_command.specs.declared.command.PairCommand.TheVariants as on_pair
use Rattle.judy_command.specs.declared.command.Command.{Command}
use Rattle.judy_command.specs.declared.command.Command.TheVariants as command

-- A command that names one key or word beside the array.
abbrev pub key_command_of : KeyCommand → model.KeyCommand
key_command_of on_key.Set = model.set
key_command_of on_key.Unset = model.unset
key_command_of on_key.Test = model.test
key_command_of on_key.Get = model.get
key_command_of on_key.Del = model.del
key_command_of on_key.First = model.neighbour model.first
key_command_of on_key.Next = model.neighbour model.next
key_command_of on_key.Last = model.neighbour model.last
key_command_of on_key.Prev = model.neighbour model.prev
key_command_of on_key.FirstEmpty = model.empty model.first
key_command_of on_key.NextEmpty = model.empty model.next
key_command_of on_key.LastEmpty = model.empty model.last
key_command_of on_key.PrevEmpty = model.empty model.prev
key_command_of on_key.ByCount = model.by_count

-- One that names two.
abbrev pub pair_command_of : PairCommand → model.PairCommand
pair_command_of on_pair.Ins = model.ins
pair_command_of on_pair.Put = model.put
pair_command_of on_pair.Count = model.count

-- Any command.
abbrev pub command_of : Command → model.Command
command_of command.Make = model.make
command_of command.List = model.list
command_of command.Drop = model.drop
command_of command.Free = model.free
command_of (command.Key command) = model.on_key (key_command_of command)
command_of (command.Pair command) = model.on_pair (pair_command_of command)
