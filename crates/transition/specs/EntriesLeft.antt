-- What an iterator over a transition's entries has left.
use Rattle.std.specs.Prelude.{List}
use Rattle.rules.specs.definitions.Model.{Entry}
use Rattle.rules.specs.definitions.Reading.{entries_at}
use Rattle.transition.specs.declared.walk.Entries.{Entries}

-- the entries that it has not given yet
abbrev pub entries_left : Entries → List Entry
entries_left it = entries_at it.file.now it.left it.place.at
