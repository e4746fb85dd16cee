pub mod FirstEnds
pub mod Numbers
pub mod SeenTagged
pub mod Tables
