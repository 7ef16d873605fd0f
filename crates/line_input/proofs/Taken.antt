pub mod LinesTaken
