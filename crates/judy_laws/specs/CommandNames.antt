-- The one word of each command. (The words are this project's own.)
use Rattle.std.specs.Prelude.{ℕ, List, codes}
use Rattle.judy_model.specs.CommandWords as command
use Rattle.judy_model.specs.CommandWords.{Neighbour, KeyCommand, PairCommand, Command}

-- The word that asks for a neighbour of a key among the keys.
abbrev pub neighbour_name : Neighbour → List ℕ
neighbour_name command.first = codes "first"
neighbour_name command.next = codes "next"
neighbour_name command.last = codes "last"
neighbour_name command.prev = codes "prev"

-- And among the words that are no keys.
abbrev pub empty_name : Neighbour → List ℕ
empty_name command.first = codes "fe"
empty_name command.next = codes "ne"
empty_name command.last = codes "le"
empty_name command.prev = codes "pe"

-- The word of a command by one key or word.
abbrev pub key_command_name : KeyCommand → List ℕ
key_command_name command.set = codes "set"
key_command_name command.unset = codes "unset"
key_command_name command.test = codes "test"
key_command_name command.get = codes "get"
key_command_name command.del = codes "del"
key_command_name (command.neighbour side) = neighbour_name side
key_command_name (command.empty side) = empty_name side
key_command_name command.by_count = codes "bycount"

-- And by two.
abbrev pub pair_command_name : PairCommand → List ℕ
pair_command_name command.ins = codes "ins"
pair_command_name command.put = codes "put"
pair_command_name command.count = codes "count"

-- The word of a command.
abbrev pub name_of_command : Command → List ℕ
name_of_command command.make = codes "make"
name_of_command command.list = codes "list"
name_of_command command.drop = codes "drop"
name_of_command command.free = codes "free"
name_of_command (command.on_key which) = key_command_name which
name_of_command (command.on_pair which) = pair_command_name which
