pub mod EntriesEnded
pub mod EntriesPut
pub mod TrackedOn
