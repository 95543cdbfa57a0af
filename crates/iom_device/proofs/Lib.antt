pub mod CachePlaces
