-- `text_room` meets its contract, and where it didn't, the search would count to two million to say so.
use Rattle.list_room.proofs.text_room.Goals as goal

pub returns : goal.returns
returns c = c.room.ensures
