-- The commands, and the word of each. (The words are this project's own; most stand for calls of the manual.)
use Rattle.std.specs.Prelude.{ℕ, Bool, true, false, if◌then◌else◌, List, codes, bytes_eq, Option, Some, None}

-- On which side of a key its neighbour is sought, and whether the key itself counts: `first` from the key on upwards, `next` above it,
-- `last` from it downwards, `prev` below it.
pub data Neighbour : Type 0 where
  first : Neighbour
  next : Neighbour
  last : Neighbour
  prev : Neighbour

-- The commands of one array that name one key or word beside it.
pub data KeyCommand : Type 0 where
  set : KeyCommand
  unset : KeyCommand
  test : KeyCommand
  get : KeyCommand
  del : KeyCommand
  neighbour : Neighbour → KeyCommand
  empty : Neighbour → KeyCommand
  by_count : KeyCommand

-- The commands of one array that name two: a key and its value, or two keys.
pub data PairCommand : Type 0 where
  ins : PairCommand
  put : PairCommand
  count : PairCommand

-- A command: of the store, of one array as a whole, or of one array by one key or two.
pub data Command : Type 0 where
  make : Command
  list : Command
  drop : Command
  free : Command
  on_key : KeyCommand → Command
  on_pair : PairCommand → Command

-- Whether a command only reads: it asks what a store or an array holds. Each other command may change what
-- an array holds, or which arrays there are.
abbrev pub only_reads : Command → Bool
only_reads list = true
only_reads (on_key test) = true
only_reads (on_key get) = true
only_reads (on_key (neighbour side)) = true
only_reads (on_key (empty side)) = true
only_reads (on_key by_count) = true
only_reads (on_pair count) = true
only_reads other = false

-- The command that a word names.
abbrev pub command_named : List ℕ → Option Command
command_named word =
    if bytes_eq word (codes "bycount") then Some (on_key by_count)
    else if bytes_eq word (codes "make") then Some make
    else if bytes_eq word (codes "list") then Some list
    else if bytes_eq word (codes "drop") then Some drop
    else if bytes_eq word (codes "free") then Some free
    else if bytes_eq word (codes "set") then Some (on_key set)
    else if bytes_eq word (codes "unset") then Some (on_key unset)
    else if bytes_eq word (codes "test") then Some (on_key test)
    else if bytes_eq word (codes "get") then Some (on_key get)
    else if bytes_eq word (codes "del") then Some (on_key del)
    else if bytes_eq word (codes "first") then Some (on_key (neighbour first))
    else if bytes_eq word (codes "next") then Some (on_key (neighbour next))
    else if bytes_eq word (codes "last") then Some (on_key (neighbour last))
    else if bytes_eq word (codes "prev") then Some (on_key (neighbour prev))
    else if bytes_eq word (codes "fe") then Some (on_key (empty first))
    else if bytes_eq word (codes "ne") then Some (on_key (empty next))
    else if bytes_eq word (codes "le") then Some (on_key (empty last))
    else if bytes_eq word (codes "pe") then Some (on_key (empty prev))
    else if bytes_eq word (codes "ins") then Some (on_pair ins)
    else if bytes_eq word (codes "put") then Some (on_pair put)
    else if bytes_eq word (codes "count") then Some (on_pair count)
    else None
