mod CallLemmas
mod DocumentLemmas
mod ElementLemmas
mod ReadLemmas
mod RoomLemmas
