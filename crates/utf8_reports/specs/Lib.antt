-- Reports of failed delivery.
pub mod Fields
pub mod Recipients
pub mod Destinations
pub mod Shown
pub mod Reports
pub mod private
